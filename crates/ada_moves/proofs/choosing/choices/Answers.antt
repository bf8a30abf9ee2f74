use Rattle.std.proofs.Common.{arith}
use Rattle.ada_moves.proofs.Listing.{more_listed, all_listed}
use Rattle.ada_moves.proofs.choosing.choices.Goals as goal

pub loop-place-preserved : goal.loop-place-preserved
loop-place-preserved g c =
    more_listed (g.B.Behaviour.told c.args.behaviour.now) c.args.kernel.now c.args.rest.now _ _ c.loop-place.place c.in_ok-object_at.field-0
    c.in_ok-object_at.ensures c.loop-place.invariant c.in_ok-list_object.ensures

pub returns : goal.returns
returns g c =
    all_listed (g.B.Behaviour.told c.args.behaviour.now) c.args.kernel.now c.args.rest.now _ _ c.loop-place.place
    (rw (← c.rest.view_is) (omega (arith, c.loop-place-test.false, c.len-place-end.ensures, c.rest.inside.tasks.ok.0)))
    c.loop-place.invariant c.in_ok-list_time.ensures
