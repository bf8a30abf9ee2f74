use Rattle.ada_moves.specs.internal.Choosing.{AreListedBelow}
use Rattle.ada_moves.proofs.choosing.choices.Given as goal

-- those of the objects before it
abbrev pub invariant-loop-place : goal.invariant-loop-place
invariant-loop-place g l = AreListedBelow (g.B.Behaviour.told l.behaviour) l.kernel l.rest l.choices.items l.place
