use Rattle.std.proofs.Common.{◌≡◌, ◌+◌, ◌≤◌, drop, length}
use Rattle.ada_behaviours.specs.Moves as moves
use Rattle.ada_moves.proofs.telling.held_object.Given as goal

-- it doesn't stand before an object
abbrev pub invariant-loop-object : goal.invariant-loop-object
invariant-loop-object l =
    (l.object ≤ length l.tasks)
    × (moves.held_object l.kernel l.tasks l.position ≡ l.object + moves.held_object l.kernel (drop l.object l.tasks) l.position)
