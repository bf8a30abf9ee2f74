use Rattle.std.proofs.Common.{◌≡◌, ◌&&◌}
use Rattle.std.specs.Prelude.{nat_le, option_map}
use Rattle.std.specs.Bool.{then_some}
use Rattle.ada_events.specs.Search.{first_below}
use Rattle.ada_events.specs.declared.names.TaskNo.{TaskNo}
use Rattle.ada_waiting.specs.Awaited.{waits_for}
use Rattle.ada_waiting.proofs.awaited.first_awaited.Given as goal

abbrev pub invariant-loop-number : goal.invariant-loop-number
invariant-loop-number l =
    option_map (λ (t : TaskNo). t.0) l.first ≡ first_below (λ t. then_some (nat_le l.from.0 t && waits_for l.kernel l.task.0 t) t) l.number
