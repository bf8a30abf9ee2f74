use Rattle.std.proofs.Common.{length, ◌-◌, ◌<◌}
use Rattle.ada_text.proofs.lexical.text_length.Given as goal

abbrev pub invariant-loop-at : goal.invariant-loop-at
invariant-loop-at l = 0 < l.at

abbrev pub decreases-loop-at : goal.decreases-loop-at
decreases-loop-at l = length l.bytes - l.at
