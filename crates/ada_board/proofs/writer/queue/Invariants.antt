use Rattle.std.proofs.Common.{◌≡◌, [], drop}
use Rattle.ada_board.proofs.writer.queue.Given as goal

-- nothing was queued yet, and what is to be queued is still at hand
abbrev pub invariant-loop : goal.invariant-loop
invariant-loop g l =
    (goal.iterator-loop g).can_next l.iterator' × (goal.iterator-loop g).is_finite l.iterator'
    × (l.publisher.desk ≡ l.initial.publisher.desk) × (drop l.publisher.behind l.publisher.log.items ≡ []) × (l.waiting ≡ l.fn.next)
