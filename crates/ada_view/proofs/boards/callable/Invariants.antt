use Rattle.std.proofs.Common.{◌≡◌, ◌<◌, ℕ, length, get_or, false}
use Rattle.ada_events.specs.Boards.{shows_callable}
use Rattle.ada_view.proofs.boards.callable.Given as goal

abbrev pub invariant-loop-task : goal.invariant-loop-task
invariant-loop-task l =
    (length l.shown ≡ 256) × ((k : ℕ) → k < l.task → get_or l.shown k false ≡ shows_callable l.view k)
