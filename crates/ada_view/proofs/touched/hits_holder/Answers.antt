use Rattle.std.proofs.Common.{sym, ap, ◌∙◌}
use Rattle.ada_tables.specs.Dependents.{Facts}
use Rattle.ada_view.proofs.Hitting.{none_above, holder_tells}
use Rattle.ada_view.proofs.touched.hits_holder.Goals as goal

pub returns-in-Some : goal.returns-in-Some
returns-in-Some c tasks tells live =
    holder_tells c.args.view.now tasks c.args.hit.now c.args.task.0 c.in-Some.master c.flag_of_holder.result c.tables.ensures.lawful
    c.requires.known live
    (sym (ap (λ (f : Facts). f.master) (c.tables.ensures.stand.tasks c.args.task.0 c.requires.known)) ∙ sym c.master.ensures ∙ c.in-Some.is)
    c.flag_of_holder.ensures c.requires.before tells

pub returns-in-None : goal.returns-in-None
returns-in-None c tasks tells live =
    sym (none_above c.args.view.now tasks c.args.task.0 c.tables.ensures.lawful
    (sym (ap (λ (f : Facts). f.master) (c.tables.ensures.stand.tasks c.args.task.0 c.requires.known)) ∙ sym c.master.ensures ∙ c.in-None.is))
