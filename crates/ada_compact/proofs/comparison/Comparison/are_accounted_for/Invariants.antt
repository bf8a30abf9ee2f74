use Rattle.std.proofs.Common.{◌≡◌, ℕ, ◌<◌, true, Some}
use Rattle.ada_standing.specs.Names.{renaming_of}
use Rattle.ada_standing.specs.StandsIn.{is_live}
use Rattle.ada_compact.proofs.comparison.Comparison.are_accounted_for.Given as goal

abbrev pub invariant-loop-number : goal.invariant-loop-number
invariant-loop-number l =
    (v : ℕ) → v < l.number → is_live l.self.new v ≡ true → (u : ℕ) × ((renaming_of l.self.names.now).task u ≡ Some v)
