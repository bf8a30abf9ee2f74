-- Places that are alike, and rise kind by kind, keep positions apart and in their order.
use Rattle.std.proofs.Common.{◌≡◌, ℕ, suc, ◌<◌, ◌≤◌, Bool, true, false, Some, List, ◌⊎◌, ◌≢◌, [], ◌∷◌, refl, ◌∙◌, ap, subst, arith, inl, inr}
use Rattle.std.specs.Prelude.{nat_le}
use Rattle.std.specs.List.{All}
use Rattle.std.proofs.lemmas.Bool.{and_parts, cases_eq, leb-true, ne_eqb, eq-eqb, cases_Bool}
use Rattle.std.proofs.lemmas.Option.{none-some, same_Some}
use Rattle.ada_standing.specs.declared.renaming.Place.{Place}
use Rattle.ada_standing.specs.Names.{placed, rises_from}
use Rattle.ada_compact.specs.internal.Kinds.{rises_among}
use Rattle.ada_standing.proofs.Placing.{first_and_later}

-- a position that is placed stands at the first place, or further
placed_cases : (place : Place) (rest : List Place) (p a : ℕ) → placed (place ∷ rest) p ≡ Some a
    → ((place.old ≡ p) × (place.new ≡ a)) ⊎ ((place.old ≢ p) × (placed rest p ≡ Some a))
unfolding placed
placed_cases place rest p a found =
    elim (cases_eq place.old p) [
      | inl same ↦ inl (same, same_Some _ _ (rw (eq-eqb place.old p same) at found))
      | inr differs ↦ inr (differs, rw (ne_eqb place.old p differs) at found)
    ]

later : (P : Place → Type 0) (place : Place) (rest : List Place) → All P (place ∷ rest) → All P rest
later P place rest all k d within = all (suc k) d (omega (arith, within))

-- what holds of each place holds of the one at which a position is placed
pub placed_all : (P : Place → Type 0) (places : List Place) → All P places → (p a : ℕ) → placed places p ≡ Some a → P (record { old = p; new = a })
unfolding placed
placed_all P [] all p a found = absurd (none-some a found)
placed_all P (place ∷ rest) all p a found =
    elim (placed_cases place rest p a found) [
      | inl here ↦ subst P (place_of place.old p place.new a here.0 here.1) (all 0 place (omega arith))
      | inr further ↦ placed_all P rest (later P place rest all) p a further.1
    ]
  where
    place_of : (p q a b : ℕ) → p ≡ q → a ≡ b → (let x : Place = record { old = p; new = a } in x) ≡ (let y : Place = record { old = q; new = b } in y)
    place_of p q a b olds news = rw (olds, news) refl

-- what is placed isn't before the first old position that there may be
placed_from : (places : List Place) (low p a : ℕ) → rises_from low places ≡ true → placed places p ≡ Some a → low ≤ p
unfolding placed
placed_from [] low p a rises found = absurd (none-some a found)
placed_from (place ∷ rest) low p a rises found =
    let both = first_and_later place rest low rises in
    elim (placed_cases place rest p a found) [
      | inl here ↦ omega (arith, both.0, here.0)
      | inr further ↦
          let below : suc place.old ≤ p = placed_from rest (suc place.old) p a both.1 further.1 in
          omega (arith, both.0, below)
    ]

module _ (test : ℕ → Bool) where
  among_here : (place : Place) (rest : List Place) (low : ℕ) → rises_among test low (place ∷ rest) ≡ true → test place.old ≡ true
      → (low ≤ place.new) × (rises_among test (suc place.new) rest ≡ true)
  unfolding rises_among
  among_here place rest low rises passes =
      let both = and_parts (nat_le low place.new) (rises_among test (suc place.new) rest) (rw passes at rises) in (leb-true low place.new both.0, both.1)

  among_past : (place : Place) (rest : List Place) (low : ℕ) → rises_among test low (place ∷ rest) ≡ true → test place.old ≡ false
      → rises_among test low rest ≡ true
  unfolding rises_among
  among_past place rest low rises fails = rw fails at rises

  -- the new position of a place that passes isn't before the first that there may be
  least_among : (places : List Place) (low q b : ℕ) → rises_among test low places ≡ true → placed places q ≡ Some b → test q ≡ true → low ≤ b
  unfolding placed
  least_among [] low q b rises found passes = absurd (none-some b found)
  least_among (place ∷ rest) low q b rises found passes =
      elim (placed_cases place rest q b found) [
        | inl is ↦ omega (arith, (among_here place rest low rises (ap test is.0 ∙ passes)).0, is.1)
        | inr further ↦
            elim (cases_Bool (test place.old)) [
              | inl here ↦
                  let both = among_here place rest low rises here in
                  let below : suc place.new ≤ b = least_among rest (suc place.new) q b both.1 further.1 passes in
                  omega (arith, both.0, below)
              | inr past ↦ least_among rest low q b (among_past place rest low rises past) further.1 passes
            ]
      ]

  -- of two places that pass, the later has the later new position
  pub order_among : (places : List Place) (low first p q a b : ℕ) → rises_from first places ≡ true → rises_among test low places ≡ true
      → placed places p ≡ Some a → placed places q ≡ Some b → test p ≡ true → test q ≡ true → p < q → a < b
  unfolding placed
  order_among [] low first p q a b olds rises found other passes also before = absurd (none-some a found)
  order_among (place ∷ rest) low first p q a b olds rises found other passes also before =
      elim (placed_cases place rest p a found) [
        | inl here ↦
            let both = among_here place rest low rises (ap test here.0 ∙ passes) in
            elim (placed_cases place rest q b other) [
              | inl is ↦ absurd (omega (arith, before, is.0, here.0))
              | inr further ↦
                  let below : suc place.new ≤ b = least_among rest (suc place.new) q b both.1 further.1 also in
                  omega (arith, below, here.1)
            ]
        | inr further ↦
            let later_old : suc place.old ≤ p = placed_from rest (suc place.old) p a (first_and_later place rest first olds).1 further.1 in
            elim (placed_cases place rest q b other) [
              | inl is ↦ absurd (omega (arith, before, is.0, later_old))
              | inr beyond ↦
                  order_among rest (after (test place.old)) (suc place.old) p q a b (first_and_later place rest first olds).1
                  (rest_rises (test place.old) refl) further.1 beyond.1 passes also before
            ]
      ]
    where
      after : Bool → ℕ
      after true = suc place.new
      after false = low

      rest_rises : (t : Bool) → test place.old ≡ t → rises_among test (after t) rest ≡ true
      rest_rises true here = (among_here place rest low rises here).1
      rest_rises false here = among_past place rest low rises here
