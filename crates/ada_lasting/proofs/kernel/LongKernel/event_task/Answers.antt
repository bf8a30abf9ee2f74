use Rattle.std.proofs.Common.{◌≡◌, Some, reverse, sym, ap, ◌∙◌}
use Rattle.std.specs.Prelude.{slice_get}
use Rattle.std.specs.Option.{option_and_then, option_copied}
use Rattle.ada_events.specs.declared.names.TaskNo.{TaskNo}
use Rattle.ada_lasting.specs.Naming.{Naming}
use Rattle.ada_lasting.specs.internal.NamesBack.{named_by}
use Rattle.ada_lasting.specs.Following.{Long}
use Rattle.ada_lasting.specs.internal.Events.{back_of, lasting_listed}
use Rattle.ada_lasting.proofs.Shown.{listed_shown}
use Rattle.ada_lasting.proofs.kernel.LongKernel.event_task.Goals as goal

-- its list has no such place
pub returns-in_err-listed : goal.returns-in_err-listed
returns-in_err-listed c = λ journal follows.
    let kernel : Long = c.args.self.now in
    let there : slice_get (reverse kernel.group) c.args.at ≡ Some c.in_ok-event.event.now = sym c.shown.ensures ∙ ap option_copied c.in_ok-event.was in
    c.from_residual-in_err-listed.ensures
    ∙ (ap (option_and_then (λ (t : TaskNo). named_by kernel.names.tasks t.0)) (sym c.in_err-listed.was ∙ c.listed.ensures)
    ∙ (ap (option_and_then (lasting_listed (back_of kernel.names) c.args.place)) (sym there)
    ∙ listed_shown journal kernel follows c.known.ensures c.args.at c.args.place))

pub returns : goal.returns
returns c = λ journal follows.
    let kernel : Long = c.args.self.now in
    let there : slice_get (reverse kernel.group) c.args.at ≡ Some c.in_ok-event.event.now = sym c.shown.ensures ∙ ap option_copied c.in_ok-event.was in
    c.lasting_task.ensures
    ∙ (ap (λ (n : Naming). named_by n.tasks c.in_ok-listed.field-0.0) c.names.ensures.names
    ∙ (ap (option_and_then (λ (t : TaskNo). named_by kernel.names.tasks t.0)) (sym c.in_ok-listed.was ∙ c.listed.ensures)
    ∙ (ap (option_and_then (lasting_listed (back_of kernel.names) c.args.place)) (sym there)
    ∙ listed_shown journal kernel follows c.known.ensures c.args.at c.args.place)))
