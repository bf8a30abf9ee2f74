use Rattle.std.proofs.Common.{◌∙◌, ◌≤◌, subst}
use Rattle.ada_triggers.proofs.Outwards.{dependent_unknown}
use Rattle.ada_triggers.proofs.masters.put_dependent.Goals as goal

pub returns-then-task-tasks : goal.returns-then-task-tasks
returns-then-task-tasks c =
    dependent_unknown c.args.view.now c.args.agenda.now c.args.task.0
    (subst (λ n. n ≤ c.args.task.0) (c.tasks.ensures.value ∙ c.tables.ensures.stand.many) c.if-task-tasks.true)
