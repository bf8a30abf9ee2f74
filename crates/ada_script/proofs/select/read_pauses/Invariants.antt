use Rattle.std.proofs.Common.{◌≡◌, ◌-◌, ◌≤◌, length}
use Rattle.ada_script.specs.internal.Reading.{repeat_at, next_pause_at, pauses_at}
use Rattle.ada_script.proofs.select.read_pauses.Given as goal

abbrev pub invariant-loop-pauses : goal.invariant-loop-pauses
invariant-loop-pauses l = record {
  fits : length l.pauses ≤ 8;
  reads : repeat_at (λ before rest. next_pause_at rest) (8 - length l.pauses) l.pauses l.words ≡ pauses_at l.guard l.fn.words;
}

abbrev pub decreases-loop-pauses : goal.decreases-loop-pauses
decreases-loop-pauses l = 8 - length l.pauses
