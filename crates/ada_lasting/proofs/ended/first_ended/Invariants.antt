use Rattle.std.proofs.Common.{◌≡◌}
use Rattle.std.specs.Prelude.{option_map}
use Rattle.ada_events.specs.Search.{first_below}
use Rattle.ada_events.specs.declared.names.TaskNo.{TaskNo}
use Rattle.ada_lasting.specs.internal.Ended.{newly_ended}
use Rattle.ada_lasting.proofs.ended.first_ended.Given as goal

abbrev pub invariant-loop-number : goal.invariant-loop-number
invariant-loop-number l = option_map (λ (t : TaskNo). t.0) l.first ≡ first_below (newly_ended l.flags l.kernel l.from.0) l.number
