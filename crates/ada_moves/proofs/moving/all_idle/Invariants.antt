use Rattle.std.proofs.Common.{◌≡◌, false}
use Rattle.std.specs.List.{list_any, range_with_len}
use Rattle.ada_behaviours.specs.Moves as moves
use Rattle.ada_moves.proofs.moving.all_idle.Given as goal

-- none of the objects before it is busy
abbrev pub invariant-loop-object : goal.invariant-loop-object
invariant-loop-object g l =
    list_any (moves.is_busy (g.B.Behaviour.told l.behaviour) l.kernel l.rest) (range_with_len 0 l.object) ≡ false
