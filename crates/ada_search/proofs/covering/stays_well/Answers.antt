use Rattle.std.proofs.Common.{◌+◌, arith, sym, subst}
use Rattle.ada_search.specs.internal.Covering.{AreDone}
use Rattle.ada_search.proofs.Closing.{stays_well}
use Rattle.ada_search.proofs.covering.stays_well.Goals as goal

pub loop-state-preserved : goal.loop-state-preserved
loop-state-preserved g c =
    let same = c.in_ok-check.ensures in
    let start = c.args.start.now in
    subst (λ space. AreDone (g.S.Schedules.told space) (g.S.Schedules.same space) (g.P.Wish.well c.args.wish.now space) start c.go_on_from.new.states
    (c.loop-state.state + 1)) same
    (c.in_ok-go_on_from.ensures c.if-not-branch.false start
    (subst (λ space. AreDone (g.S.Schedules.told space) (g.S.Schedules.same space) (g.P.Wish.well c.args.wish.now space) start c.loop-state.states
    c.loop-state.state) (sym same) c.loop-state.invariant))

pub returns-then-state-count : goal.returns-then-state-count
returns-then-state-count g c =
    stays_well _ _ _ c.args.start.now c.loop-state.states c.loop-state.state c.loop-state.invariant (omega arith)
    c.speaks.ensures c.is_kept.ensures

pub returns-then-count-most : goal.returns-then-count-most
returns-then-count-most g c =
    stays_well _ _ _ c.args.start.now c.loop-state.states c.loop-state.state c.loop-state.invariant (omega arith)
    c.speaks.ensures c.is_kept.ensures
