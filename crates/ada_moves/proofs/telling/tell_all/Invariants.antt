use Rattle.std.proofs.Common.{◌≡◌, fold}
use Rattle.std.specs.List.{range_with_len}
use Rattle.ada_behaviours.specs.Moves as moves
use Rattle.ada_moves.proofs.telling.tell_all.Given as goal

-- the objects before one are told
abbrev pub invariant-loop-object : goal.invariant-loop-object
invariant-loop-object g l =
    l.state ≡ fold (moves.told_one (g.B.Behaviour.told l.behaviour) l.kernel l.tasks) l.fn.state (range_with_len 0 l.object)
