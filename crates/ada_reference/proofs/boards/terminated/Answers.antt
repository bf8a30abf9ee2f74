use Rattle.std.proofs.Common.{◌∙◌, ap, reverse, arith, false, ◌&&◌}
use Rattle.std.specs.Prelude.{nat_lt}
use Rattle.ada_events.specs.Phases.{is_terminated}
use Rattle.ada_events.specs.Boards.{shows_terminated}
use Rattle.ada_reference.proofs.Filling.{filled_more, listed_all}
use Rattle.ada_reference.proofs.boards.terminated.Goals as goal

pub loop-task-preserved : goal.loop-task-preserved
unfolding shows_terminated
loop-task-preserved c =
    filled_more (shows_terminated (reverse c.args.events.now)) c.loop-task.shown c.loop-task.task c.from.result 256 c.shows_terminated.result false
    c.loop-task-test.true c.from.ensures
    (c.shows_terminated.ensures ∙ ap (λ n. nat_lt c.loop-task.task n && is_terminated (reverse c.args.events.now) c.loop-task.task) c.tasks_in-tasks.ensures)
    c.loop-task.invariant

pub returns : goal.returns
returns c =
    listed_all (shows_terminated (reverse c.args.events.now)) c.loop-task.shown 256 false c.loop-task.invariant.0
    (λ k below. c.loop-task.invariant.1 k (omega arith))
