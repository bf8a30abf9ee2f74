use Rattle.ada_agenda.proofs.Noting.{held_fits}
use Rattle.ada_triggers.specs.internal.Keys.{is_that}
use Rattle.ada_triggers.proofs.Putting.{caller_put}
use Rattle.ada_triggers.proofs.sweeps.put_caller.Goals as goal

pub put_if-requires : goal.put_if-requires
put_if-requires c = held_fits c.args.view.now c.args.task.0 _ c.record-at.ensures.lawful c.record-at.ensures.right.suspension.at

pub returns : goal.returns
returns c =
    caller_put c.args.view.now c.args.agenda.now c.put_if.new.agenda (is_that c.args.callee.0) c.args.task.0 c.record-at.result.suspension.at _
    c.record-at.ensures.lawful c.record-at.ensures.right.suspension.at c.calls_at-calls.ensures c.put_if.ensures
