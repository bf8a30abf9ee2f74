-- From what is in the present journal back to its lasting name.
use Rattle.std.proofs.Common.{◌≡◌, ◌≢◌, ℕ, suc, ◌+◌, ◌-◌, ◌≤◌, ◌<◌, true, Some, None, List, [], ◌∷◌, refl, sym, ap, ◌∙◌, inl, inr, arith}
use Rattle.std.specs.Prelude.{◌==◌}
use Rattle.std.proofs.lemmas.Bool.{cases_eq, cases_lt, eqb-true, le-leb, le-ltb, lt-leb, lt-ltb, ne_eqb, eq-eqb}
use Rattle.std.proofs.lemmas.Option.{none-some, same_Some}
use Rattle.ada_lasting.specs.declared.rows.Row.{Row}
use Rattle.ada_lasting.specs.Naming.{Naming, found, position_of}
use Rattle.ada_lasting.specs.internal.Keeping.{rises_between}
use Rattle.ada_lasting.specs.internal.NamesBack.{named_by, lasting_of}
use Rattle.ada_lasting.proofs.Finding.{first_of, if_cases}
use Rattle.ada_lasting.proofs.MovedNames.{found_below, found_above, position-later, position-past, position-before}

-- the lasting name of something is a name by which it is found
pub named_by-found : (rows : List Row) (low high present lasting : ℕ) → rises_between low high rows ≡ true
    → named_by rows present ≡ Some lasting → found rows lasting ≡ Some present
unfolding found named_by
named_by-found [] low high present lasting rises is = absurd (none-some lasting is)
named_by-found (row ∷ rest) low high present lasting rises is =
    let first = first_of low high row rest rises in
    elim (if_cases (row.present == present) (Some row.lasting) (named_by rest present) (Some lasting) is) [
      | inl here ↦
          rw (eq-eqb row.lasting lasting (same_Some row.lasting lasting here.1), eqb-true row.present present here.0) refl
      | inr further ↦
          let later : found rest lasting ≡ Some present = named_by-found rest (suc row.lasting) high present lasting first.later further.1 in
          let other : row.lasting ≢ lasting = λ same.
          none-some present
          (sym (found_below rest (suc row.lasting) high lasting first.later (omega (arith, same))) ∙ later) in
          rw (ne_eqb row.lasting lasting other) later
    ]

-- what is found by a lasting name has one
pub found-named_by : (rows : List Row) (lasting present : ℕ) → found rows lasting ≡ Some present
    → (name : ℕ) × (named_by rows present ≡ Some name)
unfolding found named_by
found-named_by [] lasting present is = absurd (none-some present is)
found-named_by (row ∷ rest) lasting present is = elim (cases_eq row.present present) [
  | inl same ↦ (row.lasting, rw (eq-eqb row.present present same) refl)
  | inr other ↦ elim (if_cases (row.lasting == lasting) (Some row.present) (found rest lasting) (Some present) is) [
    | inl here ↦ absurd (other (same_Some row.present present here.1))
    | inr further ↦
        let later = found-named_by rest lasting present further.1 in
        (later.0, rw (ne_eqb row.present present other) later.1)
  ]
]

-- the lasting position of what came after the present journal took its place, of what may come yet, and of what was before

lasting-later : (names : Naming) (position : ℕ) → names.from < position → position ≤ names.until
    → lasting_of names position ≡ Some (names.since + (position - names.from))
lasting-later names position after within = rw (lt-ltb names.from position after, le-leb position names.until within) refl

lasting-past : (names : Naming) (position : ℕ) → names.from < position → names.until < position → lasting_of names position ≡ None
lasting-past names position after past = rw (lt-ltb names.from position after, lt-leb position names.until past) refl

lasting-before : (names : Naming) (position : ℕ) → position ≤ names.from → lasting_of names position ≡ named_by names.places position
lasting-before names position before = rw (le-ltb names.from position before) refl

-- the lasting position of something is one at which it is found: for readers, as the next
pub lasting_of-position : (names : Naming) (position lasting : ℕ) → rises_between 0 (suc names.since) names.places ≡ true
    → lasting_of names position ≡ Some lasting → position_of names lasting ≡ Some position
lasting_of-position names position lasting rises is = elim (cases_lt names.from position) [
  | inl after ↦ elim (cases_lt names.until position) [
    | inl past ↦ absurd (none-some lasting (sym (lasting-past names position after past) ∙ is))
    | inr within ↦
        let same : names.since + (position - names.from) ≡ lasting =
        same_Some _ lasting (sym (lasting-later names position after within) ∙ is) in
        let back : names.from + (lasting - names.since) ≡ position = omega (arith, same, after) in
        position-later names lasting (omega (arith, same, after)) (omega (arith, same, after, within)) ∙ ap Some back
  ]
  | inr before ↦
      let row : found names.places lasting ≡ Some position =
      named_by-found names.places 0 (suc names.since) position lasting rises (sym (lasting-before names position before) ∙ is) in
      elim (cases_lt names.since lasting) [
        | inl beyond ↦
            absurd (none-some position (sym (found_above names.places 0 (suc names.since) lasting rises (omega (arith, beyond))) ∙ row))
        | inr low ↦ position-before names lasting low ∙ row
      ]
]

-- what is found at a lasting position has one, as far as the present journal is: for readers
pub position-lasting_of : (names : Naming) (lasting position : ℕ) → position_of names lasting ≡ Some position → position ≤ names.until
    → (name : ℕ) × (lasting_of names position ≡ Some name)
position-lasting_of names lasting position is within = elim (cases_lt names.from position) [
  | inl after ↦ (names.since + (position - names.from), lasting-later names position after within)
  | inr before ↦ elim (cases_lt names.since lasting) [
    | inl beyond ↦ elim (cases_lt (names.until - names.from) (lasting - names.since)) [
      | inl past ↦ absurd (none-some position (sym (position-past names lasting beyond past) ∙ is))
      | inr near ↦
          let same : names.from + (lasting - names.since) ≡ position =
          same_Some _ position (sym (position-later names lasting beyond near) ∙ is) in
          absurd (omega (arith, same, before, beyond))
    ]
    | inr low ↦
        let row = found-named_by names.places lasting position (sym (position-before names lasting low) ∙ is) in
        (row.0, lasting-before names position before ∙ row.1)
  ]
]
