use Rattle.ada_agenda.proofs.Noting.{both_put, call_noted}
use Rattle.ada_agenda.proofs.keeping.put_call_keys.Goals as goal

pub returns : goal.returns
returns c =
    let old = c.args.agenda.now in
    let one = c.put_if.new.agenda in
    let two = c.put_if-2.new.agenda in
    call_noted old c.put_if-3.new.agenda c.args.call c.args.wait c.args.lost c.args.immediate
    (both_put old two c.put_if-3.new.agenda _ _ (both_put old one two _ _ c.put_if.ensures c.put_if-2.ensures) c.put_if-3.ensures)
