use Rattle.std.proofs.Common.{◌∙◌, ◌<◌, ◌≤◌, ap, sym, subst}
use Rattle.ada_tables.specs.Dependents.{Facts}
use Rattle.ada_admission.proofs.Declaring.{undeclared}
use Rattle.ada_admission.proofs.entries.families.Goals as goal

pub returns-then-task-tasks : goal.returns-then-task-tasks
returns-then-task-tasks c =
    sym (undeclared c.args.view.now c.args.task.0
    (subst (λ n. n ≤ c.args.task.0) (c.tasks.ensures.value ∙ c.tables-tables.ensures.stand.many) c.if-task-tasks.true))

pub returns : goal.returns
returns c =
    c.as_slice.ensures.value ∙ c.families.ensures
    ∙ ap (λ (f : Facts). f.families) (c.tables-tables.ensures.stand.tasks c.args.task.0
    (subst (λ n. c.args.task.0 < n) (c.tasks.ensures.value ∙ c.tables-tables.ensures.stand.many) c.if-task-tasks.false))
