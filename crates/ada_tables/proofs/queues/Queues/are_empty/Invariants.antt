use Rattle.std.proofs.Common.{◌≡◌, ◌+◌, true, length}
use Rattle.std.specs.Prelude.{◌==◌}
use Rattle.ada_events.specs.Search.{all_below}
use Rattle.ada_tables.specs.Queues.{queue_at}
use Rattle.ada_tables.proofs.queues.Queues.are_empty.Given as goal

abbrev pub invariant-loop-slot : goal.invariant-loop-slot
invariant-loop-slot l = all_below (λ slot. length (queue_at l.self.queues (l.first + slot)) == 0) l.slot ≡ true
