use Rattle.ada_moves.proofs.Listing.{one_listed}
use Rattle.ada_moves.proofs.choosing.list_picks.Goals as goal

pub loop-pick-preserved : goal.loop-pick-preserved
loop-pick-preserved g c =
    one_listed (g.B.Behaviour.told c.args.behaviour.now) c.args.kernel.now c.args.rest.now _ _ _ c.args.object c.loop-pick.pick
    c.loop-pick.invariant c.in_ok-list_pick.ensures
