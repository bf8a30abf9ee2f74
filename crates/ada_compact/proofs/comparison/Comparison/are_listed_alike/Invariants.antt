use Rattle.std.proofs.Common.{ℕ, ◌<◌}
use Rattle.ada_standing.specs.Names.{renaming_of}
use Rattle.ada_compact.specs.internal.Starting.{IsListedAlike}
use Rattle.ada_compact.proofs.comparison.Comparison.are_listed_alike.Given as goal

abbrev pub invariant-loop-number : goal.invariant-loop-number
invariant-loop-number l = (u : ℕ) → u < l.number → IsListedAlike l.self.old (renaming_of l.self.names.now) l.old l.new u
