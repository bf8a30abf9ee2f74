use Rattle.std.proofs.Common.{ℕ, ◌<◌}
use Rattle.std.specs.Prelude.{slice_index_or}
use Rattle.ada_standing.specs.declared.renaming.Place.{Place}
use Rattle.ada_compact.specs.internal.Kinds.{IsAlikePlace}
use Rattle.ada_compact.proofs.comparison.Comparison.are_alike_places.Given as goal

abbrev pub invariant-loop-place : goal.invariant-loop-place
invariant-loop-place l = (k : ℕ) (d : Place) → k < l.place-index → IsAlikePlace l.self.old l.self.new (slice_index_or l.places k d)
