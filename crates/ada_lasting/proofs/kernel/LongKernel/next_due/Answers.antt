use Rattle.std.proofs.Common.{ap, ◌∙◌}
use Rattle.ada_waiting.specs.Standstill.{first_due}
use Rattle.ada_lasting.proofs.Waited.{waits}
use Rattle.ada_lasting.proofs.kernel.LongKernel.next_due.Goals as goal

pub returns : goal.returns
returns c = λ journal follows.
    c.next_due.ensures ∙ (ap first_due c.present.ensures.present ∙ (waits journal c.args.self.now follows c.known.ensures).first_due)
