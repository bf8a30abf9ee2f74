use Rattle.std.proofs.Common.{subst}
use Rattle.ada_step_laws.specs.declared.row.Row.TheVariants.{QuittingBody}
use Rattle.ada_agenda.specs.Keeping.{Puts, When, AsKey}
use Rattle.ada_agenda.proofs.Noting.{both_put}
use Rattle.ada_view.proofs.Quitting.{body_held}
use Rattle.ada_triggers.proofs.endings.put_completion.Goals as goal

pub has_live_dependents-lives-requires : goal.has_live_dependents-lives-requires
has_live_dependents-lives-requires c = body_held c.args.view.now c.args.task c.requires.known

pub returns-clause-put : goal.returns-clause-put
returns-clause-put c =
    let old = c.args.agenda.now in
    both_put old c.put_activation.new.agenda c.put_all_unstarted.new.agenda _ _
    (both_put old c.put_uncallable_calls.new.agenda c.put_activation.new.agenda _ _
    (both_put old c.put_if.new.agenda c.put_uncallable_calls.new.agenda _ _
    (both_put old c.put.new.agenda c.put_if.new.agenda _ _ c.put.ensures
    (subst (λ so. Puts c.put.new.agenda c.put_if.new.agenda (When so (AsKey QuittingBody c.args.task.0))) c.has_live_dependents-lives.ensures
    c.put_if.ensures))
    c.put_uncallable_calls.ensures)
    c.put_activation.ensures)
    c.put_all_unstarted.ensures.put
