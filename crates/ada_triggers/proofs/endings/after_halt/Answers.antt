use Rattle.ada_agenda.proofs.Noting.{both_put}
use Rattle.ada_triggers.proofs.Callees.{halt_noted}
use Rattle.ada_triggers.proofs.endings.after_halt.Goals as goal

pub returns-clause-keeps_up : goal.returns-clause-keeps_up
returns-clause-keeps_up c =
    let old = c.args.agenda.now in
    halt_noted c.args.view.now old c.put_callee.new.agenda c.args.task c.record.result.suspension.at c.record.ensures.right.suspension.at
    (both_put old c.put_blocks.new.agenda c.put_callee.new.agenda _ _
    (both_put old c.put_completion.new.agenda c.put_blocks.new.agenda _ _ c.put_completion.ensures.put c.put_blocks.ensures) c.put_callee.ensures)
