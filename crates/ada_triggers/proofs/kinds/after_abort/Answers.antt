use Rattle.ada_triggers.proofs.Additions.{abort_noted}
use Rattle.ada_triggers.proofs.kinds.after_abort.Goals as goal

pub returns : goal.returns
returns c by tasks lists =
    abort_noted c.args.view.now c.args.agenda.now c.put_all_hit.new.agenda by tasks c.args.hit.now c.named.result lists c.named.ensures
    c.put_all_hit.ensures
