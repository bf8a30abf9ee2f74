use Rattle.std.proofs.Common.{◌≡◌, not, ◌||◌, reverse}
use Rattle.ada_events.specs.Search.{all_below}
use Rattle.ada_events.specs.Masters.{depends_on}
use Rattle.ada_events.specs.Phases.{is_terminated}
use Rattle.ada_reference.proofs.termination.all_terminated.Given as goal

abbrev pub invariant-loop-task : goal.invariant-loop-task
invariant-loop-task l = l.all ≡ all_below (λ u. not (depends_on (reverse l.events) u l.master) || is_terminated (reverse l.events) u) l.task
