use Rattle.std.proofs.Common.{◌≡◌, not}
use Rattle.ada_events.specs.Search.{all_below}
use Rattle.ada_events.specs.Phases.{is_running}
use Rattle.ada_waiting.proofs.standstill.nobody_runs.Given as goal

abbrev pub invariant-loop-number : goal.invariant-loop-number
invariant-loop-number l = l.nobody ≡ all_below (λ t. not (is_running l.kernel t)) l.number
