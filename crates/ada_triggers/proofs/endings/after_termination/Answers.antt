use Rattle.ada_agenda.proofs.Noting.{both_put}
use Rattle.ada_triggers.proofs.Ends.{termination_noted}
use Rattle.ada_triggers.proofs.endings.after_termination.Goals as goal

pub returns : goal.returns
returns c =
    let old = c.args.agenda.now in
    termination_noted c.args.view.now old c.put_dependent.new.agenda c.args.task
    (both_put old c.put_activation.new.agenda c.put_dependent.new.agenda _ _
    (both_put old c.put_uncallable_calls.new.agenda c.put_activation.new.agenda _ _ c.put_uncallable_calls.ensures c.put_activation.ensures)
    c.put_dependent.ensures)
