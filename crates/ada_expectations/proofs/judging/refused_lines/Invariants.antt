use Rattle.std.proofs.Common.{◌≡◌, take}
use Rattle.ada_expectations.specs.Plays.{refused_in}
use Rattle.ada_expectations.proofs.judging.refused_lines.Given as goal

abbrev pub invariant-loop-i : goal.invariant-loop-i
invariant-loop-i l = l.refused.items ≡ refused_in (take l.i l.lines) l.answers
