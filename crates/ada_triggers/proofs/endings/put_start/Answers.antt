use Rattle.std.proofs.Common.{◌∙◌, ap, sym}
use Rattle.std.specs.Option.{option_map}
use Rattle.ada_events.specs.declared.names.TaskNo.{TaskNo}
use Rattle.ada_triggers.proofs.Ends.{activation_put, no_activation}
use Rattle.ada_triggers.proofs.endings.put_start.Goals as goal

pub returns-in-Some : goal.returns-in-Some
returns-in-Some c =
    activation_put c.args.view.now c.args.agenda.now c.put_held.new.agenda c.args.task c.in-Some.by.0
    (sym c.maker.ensures ∙ ap (option_map (λ (t : TaskNo). t.0)) c.in-Some.is) c.put_held.ensures

pub returns-in-None : goal.returns-in-None
returns-in-None c =
    no_activation c.args.view.now c.args.agenda.now c.args.task (sym c.maker.ensures ∙ ap (option_map (λ (t : TaskNo). t.0)) c.in-None.is)
