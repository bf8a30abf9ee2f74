use Rattle.ada_behaviours.specs.Moves.{behaving}
use Rattle.ada_moves.proofs.Stepping.{goes_on, refuses}
use Rattle.ada_moves.proofs.moving.perform.Goals as goal

pub returns-in_ok-accepted-in-Ok : goal.returns-in_ok-accepted-in-Ok
returns-in_ok-accepted-in-Ok g c =
    goes_on (g.B.Behaviour.told c.args.behaviour.now) c.args.kernel.now c.args.rest.now _ c.args.object c.args.pick c.tasks-task.result
    c.in-Ok.field-0 _ c.args.request _ c.requires.asks c.in-Ok.ensures.ok c.requires.makes c.tasks-task.ensures c.in_ok-accepted-in-Ok.ensures

pub returns-in_ok-refused-in-Err : goal.returns-in_ok-refused-in-Err
returns-in_ok-refused-in-Err g c =
    refuses (behaving (g.B.Behaviour.told c.args.behaviour.now)) _ _ _ _ _ c.args.request c.requires.asks c.in-Err.cause c.in-Err.ensures.err
    c.in_ok-of_the_rules-in-Err.ensures.0 c.in_ok-of_the_rules-in-Err.ensures.1 c.in_ok-refused-in-Err.ensures
