use Rattle.std.proofs.Common.{◌≡◌, ◌≤◌, [], vec_len, vec_capacity}
use Rattle.std.specs.List.{All}
use Rattle.left_right.specs.Sides.{view as sight_of}
use Rattle.ada_board.proofs.opening.fill.Given as goal

-- each place so far was put into the list, which has room for all, and has seen nothing
abbrev pub invariant-loop-taken : goal.invariant-loop-taken
invariant-loop-taken g l = (vec_len l.places ≡ l.taken) × (l.readers ≤ vec_capacity l.places) × All (λ place. sight_of place.place ≡ []) l.places.items
