use Rattle.std.proofs.Common.{◌≡◌, true, sym, ap, ◌∙◌, subst}
use Rattle.std.specs.Prelude.{slice_index_or, false}
use Rattle.std.specs.Option.{option_map}
use Rattle.std.proofs.lemmas.Option.{none-some, same_Some}
use Rattle.ada_events.specs.declared.names.Master.{Master}
use Rattle.ada_events.specs.declared.names.TaskNo.{TaskNo}
use Rattle.ada_events.specs.Nests.{nest}
use Rattle.ada_events.specs.Holders.{holds}
use Rattle.ada_view.proofs.Hitting.{opened_by}
use Rattle.ada_view.proofs.touched.flag_of_holder.Goals as goal

pub returns-in-Some : goal.returns-in-Some
returns-in-Some c task held =
    let opened = opened_by c.args.view.now task c.in-Block.block
    (subst (λ (m : Master). holds task (nest c.args.view.now task) m ≡ true) c.in-Block.is held) in
    c.flag_of-in-Some.ensures
    ∙ ap (λ n. slice_index_or c.args.flags.now n false)
    (same_Some c.in-Some.task.0 task (sym (ap (option_map (λ (t : TaskNo). t.0)) c.in-Some.is) ∙ c.opener.ensures ∙ opened))

pub returns-in-None : goal.returns-in-None
returns-in-None c task held =
    let opened = opened_by c.args.view.now task c.in-Block.block
    (subst (λ (m : Master). holds task (nest c.args.view.now task) m ≡ true) c.in-Block.is held) in
    absurd (none-some task (sym (ap (option_map (λ (t : TaskNo). t.0)) c.in-None.is) ∙ c.opener.ensures ∙ opened))
