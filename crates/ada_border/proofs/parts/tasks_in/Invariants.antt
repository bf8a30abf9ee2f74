use Rattle.std.proofs.Common.{◌≡◌, drop, length}
use Rattle.ada_border.specs.Requests.{all_in, task_in}
use Rattle.ada_border.proofs.Reading.{joined}
use Rattle.ada_border.proofs.parts.tasks_in.Given as goal

abbrev pub invariant-loop-number : goal.invariant-loop-number
invariant-loop-number l =
    (all_in task_in l.numbers ≡ joined l.tasks (all_in task_in (drop l.number-index l.numbers))) × (length l.tasks ≡ l.number-index)
