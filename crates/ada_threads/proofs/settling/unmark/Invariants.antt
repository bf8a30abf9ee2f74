use Rattle.std.proofs.Common.{◌≡◌}
use Rattle.ada_threads.specs.internal.Settling.{unmarked_of}
use Rattle.ada_threads.proofs.Mapping.{changed_to}
use Rattle.ada_threads.proofs.settling.unmark.Given as goal

abbrev pub invariant-loop-thread : goal.invariant-loop-thread
invariant-loop-thread l = l.threads ≡ changed_to (unmarked_of l.task) l.thread-index l.fn.threads
