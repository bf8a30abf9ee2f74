use Rattle.std.proofs.Common.{◌∙◌, ◌<◌, ◌≤◌, ap, sym, subst}
use Rattle.std.specs.Bool.{then_some}
use Rattle.std.proofs.lemmas.Bool.{le-ltb}
use Rattle.ada_events.specs.declared.event.Event.TheVariants.{Gone}
use Rattle.ada_view.proofs.Orphans.{known_goes, unknown_stays}
use Rattle.ada_view.proofs.view.View.terminates.Goals as goal

pub returns-then-task-tasks : goal.returns-then-task-tasks
returns-then-task-tasks c =
    unknown_stays c.args.self.now c.args.task.0 (le-ltb c.args.task.0 _
    (subst (λ n. n ≤ c.args.task.0) (c.tasks.ensures.value ∙ c.tables.ensures.stand.many) c.if-task-tasks.true))

pub is_to_go-requires : goal.is_to_go-requires
is_to_go-requires c = subst (λ n. c.args.task.0 < n) (c.tasks.ensures.value ∙ c.tables.ensures.stand.many) c.if-task-tasks.false

pub returns : goal.returns
returns c =
    known_goes c.args.self.now c.args.task.0 (subst (λ n. c.args.task.0 < n) (c.tasks.ensures.value ∙ c.tables.ensures.stand.many) c.if-task-tasks.false)
    ∙ ap (λ b. then_some b (Gone c.args.task)) (sym c.is_to_go.ensures)
