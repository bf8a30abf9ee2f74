use Rattle.ada_moves.specs.internal.Choosing.{AreKept, AreListedTo}
use Rattle.ada_moves.proofs.choosing.list_picks.Given as goal

-- each with a pick below it
abbrev pub invariant-loop-pick : goal.invariant-loop-pick
invariant-loop-pick g l =
    AreKept l.fn.choices.items l.choices.items
    × AreListedTo (g.B.Behaviour.told l.behaviour) l.kernel l.rest l.choices.items l.object l.pick
