use Rattle.std.proofs.Common.{◌≡◌, ◌≤◌, ◌+◌}
use Rattle.ada_text.specs.Places.{place_at}
use Rattle.ada_text.proofs.place.place_of.Given as goal

abbrev pub invariant-loop-byte : goal.invariant-loop-byte
invariant-loop-byte l = (l.place ≡ place_at l.text l.byte-index) × (l.place.line ≤ l.byte-index + 1) × (l.place.column ≤ l.byte-index + 1)
