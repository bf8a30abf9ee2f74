use Rattle.ada_triggers.proofs.Waits.{accept_noted}
use Rattle.ada_triggers.proofs.calls.after_accept.Goals as goal

pub returns : goal.returns
returns c by pick entry =
    accept_noted c.args.view.now c.args.agenda.now c.put.new.agenda by pick entry c.next_position.result c.next_position.ensures.next c.put.ensures
