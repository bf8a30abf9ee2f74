use Rattle.std.proofs.Common.{◌≡◌, ◌++◌, ◌≤◌, drop, length, option_map}
use Rattle.ada_behaviours.specs.Moves as moves
use Rattle.ada_moves.proofs.asking.tasks_of.Given as goal

-- the tasks of the objects before one, and then the others
abbrev pub invariant-loop-object : goal.invariant-loop-object
invariant-loop-object l =
    (length l.named ≡ l.object-index) × (l.object-index ≤ length l.objects)
    × (moves.tasks_of l.tasks l.objects ≡ option_map (λ rest. l.named ++ rest) (moves.tasks_of l.tasks (drop l.object-index l.objects)))
