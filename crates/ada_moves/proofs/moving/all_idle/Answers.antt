use Rattle.ada_behaviours.specs.Moves.{is_busy}
use Rattle.ada_moves.proofs.Counting.{none_more}
use Rattle.ada_moves.proofs.Stepping.{not_idle}
use Rattle.ada_moves.proofs.moving.all_idle.Goals as goal

pub returns-then-branch : goal.returns-then-branch
returns-then-branch g c =
    not_idle (g.B.Behaviour.told c.args.behaviour.now) c.args.kernel.now c.args.rest.now c.loop-object.object c.objects-object-end.result _
    c.objects-object-end.ensures c.loop-object-test.true c.in_ok-is_busy.ensures c.if-branch.true

pub loop-object-preserved : goal.loop-object-preserved
loop-object-preserved g c =
    none_more (is_busy (g.B.Behaviour.told c.args.behaviour.now) c.args.kernel.now c.args.rest.now) c.loop-object.object _
    c.loop-object.invariant c.in_ok-is_busy.ensures c.if-branch.false
