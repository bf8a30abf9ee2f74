use Rattle.ada_agenda.proofs.Noting.{both_put}
use Rattle.ada_triggers.proofs.Waits.{wait_noted}
use Rattle.ada_triggers.proofs.calls.after_wait.Goals as goal

pub returns : goal.returns
returns c =
    let old = c.args.agenda.now in
    wait_noted c.args.view.now old c.put_dependent_if.new.agenda c.args.by c.args.pick c.args.choices.now c.args.tail.now
    c.next_position-own.result c.is_to_pass-passes.result c.is_open_terminate.result
    c.next_position-own.ensures.next c.is_to_pass-passes.ensures c.is_open_terminate.ensures
    (both_put old c.put_if.new.agenda c.put_dependent_if.new.agenda _ _
    (both_put old c.put.new.agenda c.put_if.new.agenda _ _ c.put.ensures c.put_if.ensures) c.put_dependent_if.ensures)
