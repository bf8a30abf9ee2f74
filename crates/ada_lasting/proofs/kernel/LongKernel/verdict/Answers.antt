use Rattle.std.proofs.Common.{ap, ◌∙◌}
use Rattle.ada_waiting.specs.Standstill.{verdict_of}
use Rattle.ada_lasting.proofs.Waited.{waits}
use Rattle.ada_lasting.proofs.kernel.LongKernel.verdict.Goals as goal

pub returns : goal.returns
returns c = λ journal follows.
    c.verdict_in.ensures ∙ (ap verdict_of c.present.ensures.present ∙ (waits journal c.args.self.now follows c.known.ensures).verdict)
