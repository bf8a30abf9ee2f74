use Rattle.ada_agenda.proofs.Noting.{both_put}
use Rattle.ada_triggers.proofs.sweeps.put_hit.Goals as goal

pub returns : goal.returns
returns c =
    both_put c.args.agenda.now c.put_haltable.new.agenda c.put_flagged_call.new.agenda _ _ c.put_haltable.ensures c.put_flagged_call.ensures
