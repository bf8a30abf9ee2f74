use Rattle.std.proofs.Common.{◌∙◌, ap, sym}
use Rattle.std.specs.Option.{option_map}
use Rattle.ada_events.specs.declared.names.TaskNo.{TaskNo}
use Rattle.ada_triggers.proofs.Callees.{callee_put, no_callee}
use Rattle.ada_triggers.proofs.calls.put_callee.Goals as goal

pub returns-in-Some : goal.returns-in-Some
returns-in-Some c =
    callee_put c.args.view.now c.args.agenda.now c.put_dependent.new.agenda c.args.at c.in-Some.callee.0
    (sym c.callee_at.ensures ∙ ap (option_map (λ (t : TaskNo). t.0)) c.in-Some.is) c.put_dependent.ensures

pub returns-in-None : goal.returns-in-None
returns-in-None c =
    no_callee c.args.view.now c.args.agenda.now c.args.at (sym c.callee_at.ensures ∙ ap (option_map (λ (t : TaskNo). t.0)) c.in-None.is)
