use Rattle.std.proofs.Common.{◌∙◌, ap, sym}
use Rattle.std.specs.Option.{option_map}
use Rattle.ada_events.specs.declared.names.TaskNo.{TaskNo}
use Rattle.ada_agenda.proofs.Noting.{both_put}
use Rattle.ada_triggers.proofs.Quitting.{master_put, unheld_put}
use Rattle.ada_triggers.proofs.masters.put_master.Goals as goal

pub put_holder-requires : goal.put_holder-requires
put_holder-requires c =
    c.requires _ (sym c.holder_of.ensures ∙ ap (option_map (λ (t : TaskNo). t.0)) c.in-Some.is)

pub returns-in-Some : goal.returns-in-Some
returns-in-Some c =
    master_put c.args.view.now c.args.agenda.now c.put_dependent.new.agenda c.args.master _
    (sym c.holder_of.ensures ∙ ap (option_map (λ (t : TaskNo). t.0)) c.in-Some.is)
    (both_put c.args.agenda.now c.put_holder.new.agenda c.put_dependent.new.agenda _ _ c.put_holder.ensures c.put_dependent.ensures)

pub returns-in_default : goal.returns-in_default
returns-in_default c =
    unheld_put c.args.view.now c.args.agenda.now c.args.master (sym c.holder_of.ensures ∙ ap (option_map (λ (t : TaskNo). t.0)) c.in_default.is)
