use Rattle.std.proofs.Common.{◌≡◌, ◌<◌, ℕ, length, get_or}
use Rattle.ada_events.specs.Boards.{shows_count}
use Rattle.ada_view.proofs.boards.counts.Given as goal

abbrev pub invariant-loop-slot : goal.invariant-loop-slot
invariant-loop-slot l =
    (length l.shown ≡ 1024) × ((k : ℕ) → k < l.slot → get_or l.shown k 0 ≡ shows_count l.view k)
