use Rattle.std.proofs.Common.{subst}
use Rattle.ada_step_laws.specs.declared.row.Row.TheVariants.{Terminating, QuittingBody}
use Rattle.ada_agenda.specs.Keeping.{Puts, When, AsKey}
use Rattle.ada_agenda.proofs.Noting.{both_put}
use Rattle.ada_triggers.proofs.Holding.{holder_put}
use Rattle.ada_triggers.proofs.masters.put_holder.Goals as goal

pub returns : goal.returns
returns c =
    let old = c.args.agenda.now in
    let once = c.put_if.new.agenda in
    let twice = c.put_if-2.new.agenda in
    let goes = subst (λ so. Puts old once (When so (AsKey Terminating c.args.task.0))) c.may_go.ensures c.put_if.ensures in
    let quits = subst (λ so. Puts once twice (When so (AsKey QuittingBody c.args.task.0))) c.is_completed.ensures c.put_if-2.ensures in
    holder_put c.args.view.now old c.put_blocks.new.agenda c.args.task.0
    (both_put old c.put_held.new.agenda c.put_blocks.new.agenda _ _
    (both_put old twice c.put_held.new.agenda _ _ (both_put old once twice _ _ goes quits) c.put_held.ensures) c.put_blocks.ensures)
