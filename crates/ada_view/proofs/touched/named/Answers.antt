use Rattle.std.proofs.Common.{◌∙◌, false, true, length-set}
use Rattle.std.proofs.lemmas.List.{get_or-replicate, length-replicate}
use Rattle.ada_view.proofs.Flagging.{named_more, named_past}
use Rattle.ada_view.proofs.touched.named.Goals as goal
use Rattle.ada_view.proofs.touched.named.Goals.{then-place-lt-MOST_TASKS, else-place-lt-MOST_TASKS}

pub loop-task-init : goal.loop-task-init
loop-task-init c = (length-replicate 256 false, λ task below. get_or-replicate 256 task false false below)

pub loop-task-preserved : goal.loop-task-preserved
loop-task-preserved c =
    elim c.if-place-lt-MOST_TASKS.branch [
      | then-place-lt-MOST_TASKS w ↦
          rw w.flags-is (
            length-set c.loop-task.flags c.from-place.result true ∙ c.loop-task.invariant.0,
            named_more c.args.tasks.now c.loop-task.flags c.loop-task.task-index c.from-place.result _ c.loop-task-test.true c.loop-task.invariant.0
                w.if-place-lt-MOST_TASKS.true c.from-place.ensures c.loop-task.invariant.1,
          )
      | else-place-lt-MOST_TASKS w ↦
          rw w.flags-is (
            c.loop-task.invariant.0,
            named_past c.args.tasks.now c.loop-task.flags c.loop-task.task-index c.from-place.result _ c.loop-task-test.true
                w.if-place-lt-MOST_TASKS.false c.from-place.ensures c.loop-task.invariant.1,
          )
    ]
