use Rattle.std.proofs.Common.{◌≡◌, ℕ, Some, length, slice_get}
use Rattle.ada_page.specs.declared.standing.Doing.{Doing}
use Rattle.ada_page.specs.Standing.{IsDoing}
use Rattle.ada_page.proofs.standing.doings_of.Given as goal

abbrev pub invariant-loop-task : goal.invariant-loop-task
invariant-loop-task l =
    (length l.doings.items ≡ l.task) × ((task : ℕ) (doing : Doing) → slice_get l.doings.items task ≡ Some doing → IsDoing l.kernel task doing)
