use Rattle.ada_search.specs.internal.Covering.{AreDone}
use Rattle.ada_search.proofs.covering.stays_well.Given as goal

-- each state before it is gone on from
abbrev pub invariant-loop-state : goal.invariant-loop-state
invariant-loop-state g l =
    AreDone (g.S.Schedules.told l.space) (g.S.Schedules.same l.space) (g.P.Wish.well l.wish l.space) l.start l.states l.state
