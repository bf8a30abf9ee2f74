use Rattle.std.proofs.Common.{◌∙◌, ◌<◌, ◌≤◌, ap, sym, subst}
use Rattle.std.specs.Bool.{then_some}
use Rattle.std.proofs.lemmas.Bool.{le-ltb}
use Rattle.ada_events.specs.declared.event.Event.TheVariants.{Quit}
use Rattle.ada_events.specs.declared.names.Master.TheVariants.{Body}
use Rattle.ada_view.proofs.Quitting.{known_quits, unknown_quits, body_held, body_complete}
use Rattle.ada_view.proofs.view.View.quits_body.Goals as goal

pub returns-then-task-tasks : goal.returns-then-task-tasks
returns-then-task-tasks c =
    unknown_quits c.args.self.now c.args.task.0 (le-ltb c.args.task.0 _
    (subst (λ n. n ≤ c.args.task.0) (c.tasks.ensures.value ∙ c.tables.ensures.stand.many) c.if-task-tasks.true))

pub is_to_quit-requires-clause-held : goal.is_to_quit-requires-clause-held
is_to_quit-requires-clause-held c =
    body_held c.args.self.now c.args.task (subst (λ n. c.args.task.0 < n) (c.tasks.ensures.value ∙ c.tables.ensures.stand.many) c.if-task-tasks.false)

pub is_to_quit-requires-clause-complete : goal.is_to_quit-requires-clause-complete
is_to_quit-requires-clause-complete c =
    body_complete c.args.self.now c.args.task c.record.result.stage.completed c.record.ensures.right.stage.completed

pub returns : goal.returns
returns c =
    known_quits c.args.self.now c.args.task.0 (subst (λ n. c.args.task.0 < n) (c.tasks.ensures.value ∙ c.tables.ensures.stand.many) c.if-task-tasks.false)
    ∙ ap (λ b. then_some b (Quit (Body c.args.task))) (sym c.is_to_quit.ensures)
