use Rattle.std.proofs.Common.{ℕ, ◌<◌}
use Rattle.ada_standing.specs.Names.{renaming_of}
use Rattle.ada_compact.specs.internal.Keeping.{IsKeptRight}
use Rattle.ada_compact.proofs.comparison.Comparison.are_kept_right.Given as goal

abbrev pub invariant-loop-number : goal.invariant-loop-number
invariant-loop-number l = (u : ℕ) → u < l.number → IsKeptRight l.self.old l.self.new (renaming_of l.self.names.now) u
