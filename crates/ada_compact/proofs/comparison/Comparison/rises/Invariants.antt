use Rattle.std.proofs.Common.{◌≡◌, drop}
use Rattle.ada_compact.specs.internal.Kinds.{is_ordered_at, rises_among}
use Rattle.ada_compact.proofs.comparison.Comparison.rises.Given as goal

abbrev pub invariant-loop-place : goal.invariant-loop-place
invariant-loop-place l =
    rises_among (is_ordered_at l.self.old l.kind) l.low (drop l.place-index l.places) ≡ rises_among (is_ordered_at l.self.old l.kind) 0 l.places
