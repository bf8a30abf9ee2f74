use Rattle.std.proofs.Common.{◌∙◌, ap, sym}
use Rattle.std.specs.Option.{option_map}
use Rattle.ada_events.specs.declared.names.TaskNo.{TaskNo}
use Rattle.ada_triggers.proofs.Callers.{caller_put, no_caller}
use Rattle.ada_triggers.proofs.calls.put_caller.Goals as goal

pub returns-in-Some : goal.returns-in-Some
returns-in-Some c =
    caller_put c.args.view.now c.args.agenda.now c.put_if.new.agenda c.args.at c.in-Some.by.0 c.is_abnormal.result
    (sym c.caller_at.ensures ∙ ap (option_map (λ (t : TaskNo). t.0)) c.in-Some.is) c.is_abnormal.ensures c.put_if.ensures

pub returns-in-None : goal.returns-in-None
returns-in-None c =
    no_caller c.args.view.now c.args.agenda.now c.args.at (sym c.caller_at.ensures ∙ ap (option_map (λ (t : TaskNo). t.0)) c.in-None.is)
