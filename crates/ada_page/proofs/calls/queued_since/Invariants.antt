use Rattle.std.proofs.Common.{◌≡◌, ◌+◌, ◌-◌, length}
use Rattle.ada_page.proofs.Growing.{StoodSince}
use Rattle.ada_page.proofs.calls.queued_since.Given as goal

abbrev pub invariant-loop-at : goal.invariant-loop-at
invariant-loop-at l = (length l.queues.items ≡ l.at - l.known + 1) × StoodSince l.known l.events l.queues.items
