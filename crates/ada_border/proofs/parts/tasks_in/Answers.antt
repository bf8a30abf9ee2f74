use Rattle.std.proofs.Common.{sym, ◌∙◌}
use Rattle.ada_border.specs.Requests.{task_in}
use Rattle.ada_border.proofs.Reading.{grown}
use Rattle.ada_border.proofs.parts.tasks_in.Goals as goal

pub loop-number-preserved : goal.loop-number-preserved
loop-number-preserved c =
    grown task_in c.args.numbers.now c.loop-number.number-index 0 c.loop-number.tasks c.push.new.self c.in_ok-task_in.field-0
    c.loop-number-test.true c.loop-number.invariant (sym c.task_in.ensures ∙ c.in_ok-task_in.was) c.push.ensures
