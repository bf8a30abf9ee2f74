-- A place is found by its old position, since these rise.
use Rattle.std.proofs.Common.{◌≡◌, ℕ, zero, suc, ◌<◌, ◌≤◌, true, Some, List, [], ◌∷◌, length, get_or, refl, arith}
use Rattle.std.specs.Prelude.{nat_le}
use Rattle.std.proofs.lemmas.Bool.{and_parts, leb-true, ne_eqb, eq-eqb}
use Rattle.ada_standing.specs.declared.renaming.Place.{Place}
use Rattle.ada_standing.specs.Names.{placed, rises_from}

pub first_and_later : (place : Place) (rest : List Place) (low : ℕ) → rises_from low (place ∷ rest) ≡ true
    → (low ≤ place.old) × (rises_from (suc place.old) rest ≡ true)
unfolding rises_from
first_and_later place rest low rises =
    let both = and_parts (nat_le low place.old) (rises_from (suc place.old) rest) rises in
    (leb-true low place.old both.0, both.1)

-- the old position of each place is at least the first that there may be
old_from : (places : List Place) (low i : ℕ) (d : Place) → rises_from low places ≡ true → i < length places → low ≤ (get_or places i d).old
old_from [] low i d rises within = absurd (omega (arith, within))
old_from (place ∷ rest) low zero d rises within = (first_and_later place rest low rises).0
old_from (place ∷ rest) low (suc i) d rises within =
    let both = first_and_later place rest low rises in
    let further : suc place.old ≤ (get_or rest i d).old = old_from rest (suc place.old) i d both.1 (omega (arith, within)) in
    omega (arith, both.0)

-- a place is found by its old position
pub placed_at : (places : List Place) (low i : ℕ) (d : Place) → rises_from low places ≡ true → i < length places
    → placed places (get_or places i d).old ≡ Some (get_or places i d).new
unfolding placed
placed_at [] low i d rises within = absurd (omega (arith, within))
placed_at (place ∷ rest) low zero d rises within = rw (eq-eqb place.old place.old refl) refl
placed_at (place ∷ rest) low (suc i) d rises within =
    let both = first_and_later place rest low rises in
    let further : suc place.old ≤ (get_or rest i d).old = old_from rest (suc place.old) i d both.1 (omega (arith, within)) in
    rw (ne_eqb place.old (get_or rest i d).old (λ same. omega (arith, same, further)))
    (placed_at rest (suc place.old) i d both.1 (omega (arith, within)))
