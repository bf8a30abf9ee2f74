use Rattle.std.proofs.Common.{◌≡◌, drop}
use Rattle.ada_threads.specs.Table.{caller_at}
use Rattle.ada_threads.proofs.serving.caller_at.Given as goal

abbrev pub invariant-loop-serving : goal.invariant-loop-serving
invariant-loop-serving l = caller_at (drop l.serving-index l.servings) l.server l.depth ≡ caller_at l.servings l.server l.fn.depth
