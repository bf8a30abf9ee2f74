use Rattle.std.proofs.Common.{sym, ap, ◌∙◌}
use Rattle.std.specs.Option.{option_map}
use Rattle.std.proofs.lemmas.Bool.{not-true}
use Rattle.ada_events.specs.declared.names.TaskNo.{TaskNo}
use Rattle.ada_lasting.proofs.Gone.{never_opened, left_by}
use Rattle.ada_lasting.proofs.masters.is_left.Goals as goal

pub returns-in-Some : goal.returns-in-Some
returns-in-Some c = λ left.
    left_by c.args.view.now c.args.block c.in-Some.task.0 (sym c.opener.ensures ∙ ap (option_map (λ (t : TaskNo). t.0)) c.in-Some.is)
    (sym c.is_within.ensures ∙ not-true c.is_within.result left)

pub returns-in-None : goal.returns-in-None
returns-in-None c = λ _.
    never_opened c.args.view.now c.args.block (sym c.opener.ensures ∙ ap (option_map (λ (t : TaskNo). t.0)) c.in-None.is)
