use Rattle.std.proofs.Common.{subst}
use Rattle.ada_step_laws.specs.declared.row.Row.TheVariants.{QuittingBlock}
use Rattle.ada_agenda.specs.Keeping.{Puts, When, AsKey}
use Rattle.ada_agenda.proofs.Noting.{both_put}
use Rattle.ada_triggers.proofs.Additions.{close_noted}
use Rattle.ada_triggers.proofs.kinds.after_close.Goals as goal

pub returns-clause-keeps_up : goal.returns-clause-keeps_up
returns-clause-keeps_up c by =
    let old = c.args.agenda.now in
    close_noted c.args.view.now old c.put_all_unstarted.new.agenda by c.args.block c.next_position.result c.next_position.ensures.next
    (both_put old c.put_if.new.agenda c.put_all_unstarted.new.agenda _ _
    (both_put old c.put.new.agenda c.put_if.new.agenda _ _ c.put.ensures
    (subst (λ so. Puts c.put.new.agenda c.put_if.new.agenda (When so (AsKey QuittingBlock c.args.block))) c.has_live_dependents-lives.ensures
    c.put_if.ensures))
    c.put_all_unstarted.ensures.put)
