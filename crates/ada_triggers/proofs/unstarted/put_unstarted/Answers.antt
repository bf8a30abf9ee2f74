use Rattle.ada_triggers.proofs.Starts.{unstarted_put}
use Rattle.ada_triggers.proofs.unstarted.put_unstarted.Goals as goal

pub returns : goal.returns
returns c =
    unstarted_put c.args.view.now c.args.agenda.now c.put_if.new.agenda c.args.task.0 _ c.may_be_abandoned-waits.ensures c.put_if.ensures
