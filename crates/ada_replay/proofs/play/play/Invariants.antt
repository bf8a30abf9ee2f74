use Rattle.std.proofs.Common.{take}
use Rattle.ada_replay.specs.Ends.{state}
use Rattle.ada_replay.proofs.Cuts.{IsPending}
use Rattle.ada_replay.proofs.play.play.Given as goal

abbrev pub invariant-loop-line : goal.invariant-loop-line
invariant-loop-line g l =
    IsPending (take l.line-index l.lines) (state l.initial.kernel l.initial.names) (state l.kernel l.names)
    (g.W.Write.contents l.initial.writer) (g.W.Write.contents l.writer) l.text.items
