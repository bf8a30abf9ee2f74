use Rattle.ada_behaviours.specs.Moves as moves
use Rattle.ada_moves.proofs.Counting.{fold_more}
use Rattle.ada_moves.proofs.telling.tell_all.Goals as goal

pub loop-object-preserved : goal.loop-object-preserved
loop-object-preserved g c =
    fold_more (moves.told_one (g.B.Behaviour.told c.args.behaviour.now) c.args.kernel.now c.args.tasks.now) _ _ _ c.loop-object.object
    c.loop-object.invariant c.in_ok-tell.ensures
