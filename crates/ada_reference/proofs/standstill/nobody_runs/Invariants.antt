use Rattle.std.proofs.Common.{◌≡◌, not, reverse}
use Rattle.ada_events.specs.Search.{all_below}
use Rattle.ada_events.specs.Phases.{is_running}
use Rattle.ada_reference.proofs.standstill.nobody_runs.Given as goal

abbrev pub invariant-loop-task : goal.invariant-loop-task
invariant-loop-task l = l.nobody ≡ all_below (λ t. not (is_running (reverse l.events) t)) l.task
