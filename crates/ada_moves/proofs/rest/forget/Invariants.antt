use Rattle.ada_moves.proofs.Keeping.{AreNamedTo}
use Rattle.ada_moves.proofs.rest.forget.Given as goal

-- those before a place are named only if they may be
abbrev pub invariant-loop-place : goal.invariant-loop-place
invariant-loop-place g l = AreNamedTo (g.B.Behaviour.told l.behaviour) l.state l.fn.tasks.items l.tasks.items l.place
