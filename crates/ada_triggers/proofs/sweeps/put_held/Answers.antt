use Rattle.ada_agenda.proofs.Noting.{held_fits}
use Rattle.ada_triggers.proofs.Putting.{held_put}
use Rattle.ada_triggers.proofs.sweeps.put_held.Goals as goal

pub put_if-requires : goal.put_if-requires
put_if-requires c = held_fits c.args.view.now c.args.task.0 _ c.record-at.ensures.lawful c.record-at.ensures.right.suspension.at

pub returns : goal.returns
returns c =
    held_put c.args.view.now c.args.agenda.now c.put_if.new.agenda c.args.row c.args.task.0 c.record-at.result.suspension.at _ c.record-at.ensures.lawful
    c.record-at.ensures.right.suspension.at c.is_of_row_at-fits.ensures c.put_if.ensures
