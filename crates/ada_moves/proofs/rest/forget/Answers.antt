use Rattle.std.proofs.Common.{arith}
use Rattle.ada_moves.proofs.Keeping.{named_more}
use Rattle.ada_moves.proofs.rest.forget.Goals as goal

pub loop-place-preserved : goal.loop-place-preserved
loop-place-preserved g c =
    rw c.named.ensures
    (named_more (g.B.Behaviour.told c.args.behaviour.now) c.args.state.now c.args.tasks.now.items c.loop-place.tasks.items c.loop-place.place
    c.in_ok-object.object.0 c.names.result c.index.result.now c.in_ok-object.ensures
    (omega (arith, c.loop-place-test.true, c.len-place-end.ensures, c.args.tasks.now.ok.0)) c.index.ensures c.names.ensures c.loop-place.invariant)
