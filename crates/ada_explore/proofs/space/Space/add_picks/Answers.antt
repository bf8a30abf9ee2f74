use Rattle.ada_explore.proofs.Choosing.{none_yet, one_more_pick}
use Rattle.ada_explore.proofs.space.Space.add_picks.Goals as goal

pub loop-pick-init : goal.loop-pick-init
loop-pick-init c = none_yet _ _ _ _ _ c.in_ok-add.ensures

pub loop-pick-preserved : goal.loop-pick-preserved
loop-pick-preserved c = one_more_pick _ _ _ _ _ _ c.loop-pick.pick c.loop-pick.invariant c.in_ok-add_pick.ensures
