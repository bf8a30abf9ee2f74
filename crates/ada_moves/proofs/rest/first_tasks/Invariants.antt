use Rattle.std.proofs.Common.{◌≡◌, map}
use Rattle.std.specs.List.{range_with_len}
use Rattle.ada_behaviours.specs.Moves as moves
use Rattle.ada_moves.proofs.rest.first_tasks.Given as goal

abbrev pub invariant-loop-object : goal.invariant-loop-object
invariant-loop-object l = l.tasks.items ≡ map moves.first_task (range_with_len 0 l.object)
