-- Names that last, where a shorter present journal takes the place of the present one.
use Rattle.std.proofs.Common.{◌≡◌, ◌≢◌, ◌⊎◌, ℕ, suc, ◌+◌, ◌-◌, ◌<◌, ◌≤◌, true, false, Option, Some, None, List, [], ◌∷◌, ◌++◌, length, get_or, drop}
use Rattle.std.proofs.Common.{refl, sym, ap, ◌∙◌, inl, inr, append_assoc, arith}
use Rattle.std.specs.Prelude.{nat_le, nat_lt, ◌&&◌, ◌==◌}
use Rattle.std.specs.Option.{option_and_then}
use Rattle.std.proofs.lemmas.Bool.{and_parts, and_cases, cases_Bool, cases_eq, cases_lt, leb-true, leb-false, ltb-true, ltb-false, le-leb, le-ltb}
use Rattle.std.proofs.lemmas.Bool.{lt-leb, lt-ltb, ne_eqb, eq-eqb}
use Rattle.std.proofs.lemmas.List.{append-nil, at_drop_more, at_drop_all}
use Rattle.ada_standing.specs.declared.renaming.Place.{Place}
use Rattle.ada_standing.specs.Names.{Names, named, placed, rises_from, renaming_of as standing_of}
use Rattle.ada_standing.specs.Renaming.{chained}
use Rattle.ada_lasting.specs.declared.rows.Row.{Row}
use Rattle.ada_lasting.specs.Naming.{Naming, found, position_of, renaming_of, length_of}
use Rattle.ada_lasting.specs.internal.Keeping.{rises_between}
use Rattle.ada_lasting.specs.internal.Moving.{with_row, moved, later, moved_places, moved_names}
use Rattle.ada_lasting.proofs.Finding.{no_row, first_of, if_cases}

abbrev pub no_place : Place
no_place = record { old = 0; new = 0 }

-- the steps of the loops that move rows

with_row-append : (lasting : ℕ) (o : Option ℕ) (rest : List Row) → with_row lasting o [] ++ rest ≡ with_row lasting o rest
with_row-append lasting None rest = refl
with_row-append lasting (Some present) rest = refl

pub moved-more : (to : ℕ → Option ℕ) (rows : List Row) (i : ℕ) (out after : List Row) (o : Option ℕ) → i < length rows
    → o ≡ to (get_or rows i no_row).present → after ≡ out ++ with_row (get_or rows i no_row).lasting o []
    → out ++ moved to (drop i rows) ≡ moved to rows → after ++ moved to (drop (i + 1) rows) ≡ moved to rows
unfolding moved
moved-more to rows i out after o within is added so_far =
    let row : Row = get_or rows i no_row in
    let left : List Row = moved to (drop (i + 1) rows) in
    let here : moved to (drop i rows) ≡ with_row row.lasting (to row.present) left = at_drop_more (moved to) rows i no_row within in
    let apart : (out ++ with_row row.lasting o []) ++ left ≡ out ++ (with_row row.lasting o [] ++ left) = append_assoc out (with_row row.lasting o []) left in
    let joined : with_row row.lasting o [] ++ left ≡ with_row row.lasting (to row.present) left =
    with_row-append row.lasting o left ∙ ap (λ (p : Option ℕ). with_row row.lasting p left) is in
    ap (λ (l : List Row). l ++ left) added ∙ apart ∙ ap (λ (l : List Row). out ++ l) (joined ∙ sym here) ∙ so_far

pub moved-all : (to : ℕ → Option ℕ) (rows : List Row) (i : ℕ) (out : List Row) → length rows ≤ i
    → out ++ moved to (drop i rows) ≡ moved to rows → out ≡ moved to rows
unfolding moved
moved-all to rows i out past so_far =
    let none : moved to (drop i rows) ≡ [] = at_drop_all (moved to) rows i past in
    sym (append-nil out) ∙ ap (λ (l : List Row). out ++ l) (sym none) ∙ so_far

-- where a place came after the present journal took its place, and where not
later_cases : (from old until : ℕ) → ((from < old) × (old ≤ until) × ((nat_lt from old && nat_le old until) ≡ true))
    ⊎ ((from < old → until < old) × ((nat_lt from old && nat_le old until) ≡ false))
later_cases from old until = elim (cases_Bool (nat_lt from old && nat_le old until)) [
  | inl came ↦
      let both = and_parts (nat_lt from old) (nat_le old until) came in
      inl (ltb-true from old both.0, leb-true old until both.1, came)
  | inr out ↦ inr (
    (λ less. elim (and_cases (nat_lt from old) (nat_le old until) out) [
      | inl before ↦
          let least : old ≤ from = ltb-false from old before in
          omega (arith, least, less)
      | inr past ↦ leb-false old until past
    ]),
    out,
  )
]

pub later-taken : (since from until : ℕ) (places : List Place) (i : ℕ) (start out after : List Row) → i < length places
    → from < (get_or places i no_place).old → (get_or places i no_place).old ≤ until
    → after ≡ out ++ (record { lasting = since + ((get_or places i no_place).old - from); present = (get_or places i no_place).new } ∷ [])
    → out ++ later since from until (drop i places) ≡ start ++ later since from until places
    → after ++ later since from until (drop (i + 1) places) ≡ start ++ later since from until places
unfolding later
later-taken since from until places i start out after within above below added so_far =
    let place : Place = get_or places i no_place in
    let row : Row = record { lasting = since + (place.old - from); present = place.new } in
    let left : List Row = later since from until (drop (i + 1) places) in
    let step : later since from until (place ∷ drop (i + 1) places) ≡ row ∷ left =
    rw (lt-ltb from place.old above, le-leb place.old until below) refl in
    let here : later since from until (drop i places) ≡ row ∷ left = at_drop_more (later since from until) places i no_place within ∙ step in
    let apart : (out ++ (row ∷ [])) ++ left ≡ out ++ (row ∷ left) = append_assoc out (row ∷ []) left in
    ap (λ (l : List Row). l ++ left) added ∙ apart ∙ ap (λ (l : List Row). out ++ l) (sym here) ∙ so_far

pub later-left : (since from until : ℕ) (places : List Place) (i : ℕ) (start out : List Row) → i < length places
    → (from < (get_or places i no_place).old → until < (get_or places i no_place).old)
    → out ++ later since from until (drop i places) ≡ start ++ later since from until places
    → out ++ later since from until (drop (i + 1) places) ≡ start ++ later since from until places
unfolding later
later-left since from until places i start out within outside so_far =
    let place : Place = get_or places i no_place in
    let left : List Row = later since from until (drop (i + 1) places) in
    let step : later since from until (place ∷ drop (i + 1) places) ≡ left = elim (later_cases from place.old until) [
      | inl came ↦ absurd (omega (arith, outside came.0, came.1))
      | inr out ↦ rw out.1 refl
    ] in
    let here : later since from until (drop i places) ≡ left = at_drop_more (later since from until) places i no_place within ∙ step in
    ap (λ (l : List Row). out ++ l) (sym here) ∙ so_far

pub later-all : (since from until : ℕ) (places : List Place) (i : ℕ) (start out : List Row) → length places ≤ i
    → out ++ later since from until (drop i places) ≡ start ++ later since from until places → out ≡ start ++ later since from until places
unfolding later
later-all since from until places i start out past so_far =
    let none : later since from until (drop i places) ≡ [] = at_drop_all (later since from until) places i past in
    sym (append-nil out) ∙ ap (λ (l : List Row). out ++ l) (sym none) ∙ so_far

-- the lasting names of rows that were moved rise

-- the least name may be less
pub rises_from_less : (rows : List Row) (low less high : ℕ) → rises_between low high rows ≡ true → less ≤ low → rises_between less high rows ≡ true
unfolding rises_between
rises_from_less [] low less high rises le = refl
rises_from_less (row ∷ rest) low less high rises le =
    let first = first_of low high row rest rises in
    rw (le-leb less row.lasting (omega (arith, first.above, le)), lt-ltb row.lasting high first.below) first.later

with_row-rises : (low high lasting : ℕ) (o : Option ℕ) (rest : List Row) → low ≤ lasting → lasting < high
    → rises_between (suc lasting) high rest ≡ true → rises_between low high (with_row lasting o rest) ≡ true
unfolding rises_between
with_row-rises low high lasting None rest above below rises = rises_from_less rest (suc lasting) low high rises (omega (arith, above))
with_row-rises low high lasting (Some present) rest above below rises =
    rw (le-leb low lasting above, lt-ltb lasting high below) rises

pub moved-rises : (to : ℕ → Option ℕ) (rows : List Row) (low high : ℕ) → rises_between low high rows ≡ true
    → rises_between low high (moved to rows) ≡ true
unfolding moved rises_between
moved-rises to [] low high rises = refl
moved-rises to (row ∷ rest) low high rises =
    let first = first_of low high row rest rises in
    with_row-rises low high row.lasting (to row.present) (moved to rest) first.above first.below
    (moved-rises to rest (suc row.lasting) high first.later)

-- where rows follow whose names are greater
pub append-rises : (rows more : List Row) (low middle high : ℕ) → rises_between low middle rows ≡ true → rises_between middle high more ≡ true
    → low ≤ middle → middle ≤ high → rises_between low high (rows ++ more) ≡ true
unfolding rises_between
append-rises [] more low middle high rises rises_more le most = rises_from_less more middle low high rises_more le
append-rises (row ∷ rest) more low middle high rises rises_more le most =
    let first = first_of low middle row rest rises in
    rw (le-leb low row.lasting first.above, lt-ltb row.lasting high (omega (arith, first.below, most)))
    (append-rises rest more (suc row.lasting) middle high first.later rises_more (omega (arith, first.below)) most)

-- names of later places rise, from any that is at most that of each that may be there
later_rises_from : (since from until : ℕ) (places : List Place) (low least : ℕ) → rises_from low places ≡ true
    → ((n : ℕ) → low ≤ n → from < n → least ≤ since + (n - from))
    → rises_between least (suc (since + (until - from))) (later since from until places) ≡ true
unfolding later rises_between rises_from
later_rises_from since from until [] low least rises above = refl
later_rises_from since from until (place ∷ rest) low least rises above =
    let both = and_parts (nat_le low place.old) (rises_from (suc place.old) rest) rises in
    let low_old : low ≤ place.old = leb-true low place.old both.0 in
    elim (later_cases from place.old until) [
      | inl came ↦
          let least_here : least ≤ since + (place.old - from) = above place.old low_old came.0 in
          let most : since + (place.old - from) < suc (since + (until - from)) = omega (arith, came.0, came.1) in
          rw (came.2, le-leb least (since + (place.old - from)) least_here, lt-ltb (since + (place.old - from)) (suc (since + (until - from))) most)
          (later_rises_from since from until rest (suc place.old) (suc (since + (place.old - from))) both.1
          (λ n above_here after. omega (arith, above_here, after, came.0)))
      | inr out ↦ rw out.1 (later_rises_from since from until rest (suc place.old) least both.1
          (λ n above_here after. above n (omega (arith, above_here, low_old)) after))
    ]

pub later-rises : (since from until : ℕ) (places : List Place) → rises_from 0 places ≡ true
    → rises_between (suc since) (suc (since + (until - from))) (later since from until places) ≡ true
later-rises since from until places rises = later_rises_from since from until places 0 (suc since) rises (λ n above after. omega (arith, after))

pub places-rise : (to : ℕ → Option ℕ) (rows : List Row) (since from until : ℕ) (places : List Place)
    → rises_between 0 (suc since) rows ≡ true → rises_from 0 places ≡ true
    → rises_between 0 (suc (since + (until - from))) (moved to rows ++ later since from until places) ≡ true
places-rise to rows since from until places rises rises_places =
    append-rises (moved to rows) (later since from until places) 0 (suc since) (suc (since + (until - from)))
    (moved-rises to rows 0 (suc since) rises) (later-rises since from until places rises_places) (omega arith) (omega arith)

-- a name above or below the limits of rows isn't found

pub found_below : (rows : List Row) (low high lasting : ℕ) → rises_between low high rows ≡ true → lasting < low → found rows lasting ≡ None
unfolding found
found_below [] low high lasting rises below = refl
found_below (row ∷ rest) low high lasting rises below =
    let first = first_of low high row rest rises in
    rw (ne_eqb row.lasting lasting (λ same. omega (arith, same, first.above, below)))
    (found_below rest (suc row.lasting) high lasting first.later (omega (arith, first.above, below)))

pub found_above : (rows : List Row) (low high lasting : ℕ) → rises_between low high rows ≡ true → high ≤ lasting → found rows lasting ≡ None
unfolding found
found_above [] low high lasting rises above = refl
found_above (row ∷ rest) low high lasting rises above =
    let first = first_of low high row rest rises in
    rw (ne_eqb row.lasting lasting (λ same. omega (arith, same, first.below, above)))
    (found_above rest (suc row.lasting) high lasting first.later above)

-- what is found in rows, and in rows that follow them

pub found-first : (rows more : List Row) (lasting : ℕ) → found more lasting ≡ None → found (rows ++ more) lasting ≡ found rows lasting
unfolding found
found-first [] more lasting none = none
found-first (row ∷ rest) more lasting none = rw (found-first rest more lasting none) refl

pub found-second : (rows more : List Row) (lasting : ℕ) → found rows lasting ≡ None → found (rows ++ more) lasting ≡ found more lasting
unfolding found
found-second [] more lasting none = refl
found-second (row ∷ rest) more lasting none = elim (if_cases (row.lasting == lasting) (Some row.present) (found rest lasting) None none) [
  | inl here ↦ absurd (some_none row.present here.1)
  | inr further ↦ rw further.0 (found-second rest more lasting further.1)
]
  where
    some_none : (x : ℕ) → Some x ≡ None → ⊥
    some_none x same = cc

-- what is found in rows that were moved: what the new number is of what was found

with_row-here : (lasting : ℕ) (o : Option ℕ) (rest : List Row) → found rest lasting ≡ None → found (with_row lasting o rest) lasting ≡ o
unfolding found
with_row-here lasting None rest none = none
with_row-here lasting (Some present) rest none = rw (eq-eqb lasting lasting refl) refl

with_row-other : (row_lasting lasting : ℕ) (o : Option ℕ) (rest : List Row) → row_lasting ≢ lasting
    → found (with_row row_lasting o rest) lasting ≡ found rest lasting
unfolding found
with_row-other row_lasting lasting None rest other = refl
with_row-other row_lasting lasting (Some present) rest other = rw (ne_eqb row_lasting lasting other) refl

pub found-moved : (to : ℕ → Option ℕ) (rows : List Row) (low high lasting : ℕ) → rises_between low high rows ≡ true
    → found (moved to rows) lasting ≡ option_and_then to (found rows lasting)
unfolding found moved
found-moved to [] low high lasting rises = refl
found-moved to (row ∷ rest) low high lasting rises =
    let first = first_of low high row rest rises in
    elim (cases_eq row.lasting lasting) [
      | inl same ↦
          let none : found (moved to rest) row.lasting ≡ None =
          found_below (moved to rest) (suc row.lasting) high row.lasting (moved-rises to rest (suc row.lasting) high first.later) (omega arith) in
          let here : found (with_row row.lasting (to row.present) (moved to rest)) row.lasting ≡ to row.present =
          with_row-here row.lasting (to row.present) (moved to rest) none in
          rw (eq-eqb row.lasting lasting same, ← same) here
      | inr other ↦
          rw (ne_eqb row.lasting lasting other)
          (with_row-other row.lasting lasting (to row.present) (moved to rest) other
          ∙ found-moved to rest (suc row.lasting) high lasting first.later)
    ]

-- what is found in rows for later places

pub found-later : (since from until : ℕ) (places : List Place) (position : ℕ) → since < position → position - since ≤ until - from
    → found (later since from until places) position ≡ placed places (from + (position - since))
unfolding found later placed
found-later since from until [] position after within = refl
found-later since from until (place ∷ rest) position after within =
    let further = found-later since from until rest position after within in
    elim (later_cases from place.old until) [
      | inl came ↦ elim (cases_eq place.old (from + (position - since))) [
        | inl same ↦
            let name : since + (place.old - from) ≡ position = omega (arith, same, came.0, after) in
            rw (came.2, eq-eqb place.old (from + (position - since)) same, eq-eqb (since + (place.old - from)) position name) refl
        | inr other ↦
            let no_name : since + (place.old - from) ≢ position = λ name. other (omega (arith, name, came.0, after)) in
            rw (came.2, ne_eqb place.old (from + (position - since)) other, ne_eqb (since + (place.old - from)) position no_name) further
      ]
      | inr out ↦
          let other : place.old ≢ from + (position - since) = λ same. omega (arith, same, out.0, after, within) in
          rw (out.1, ne_eqb place.old (from + (position - since)) other) further
    ]

pub found-later-none : (since from until : ℕ) (places : List Place) (position : ℕ) → (since < position → until - from < position - since)
    → found (later since from until places) position ≡ None
unfolding found later
found-later-none since from until [] position outside = refl
found-later-none since from until (place ∷ rest) position outside =
    let further = found-later-none since from until rest position outside in
    elim (later_cases from place.old until) [
      | inl came ↦
          let no_name : since + (place.old - from) ≢ position = λ name.
          let past : until - from < position - since = outside (omega (arith, name, came.0)) in
          omega (arith, name, came.0, came.1, past) in
          rw (came.2, ne_eqb (since + (place.old - from)) position no_name) further
      | inr out ↦ rw out.1 further
    ]

-- what has a lasting position: what came later, what may come yet, and what was before

pub position-later : (names : Naming) (position : ℕ) → names.since < position → position - names.since ≤ names.until - names.from
    → position_of names position ≡ Some (names.from + (position - names.since))
position-later names position after within =
    rw (lt-ltb names.since position after, le-leb (position - names.since) (names.until - names.from) within) refl

pub position-past : (names : Naming) (position : ℕ) → names.since < position → names.until - names.from < position - names.since
    → position_of names position ≡ None
position-past names position after past =
    rw (lt-ltb names.since position after, lt-leb (position - names.since) (names.until - names.from) past) refl

pub position-before : (names : Naming) (position : ℕ) → position ≤ names.since → position_of names position ≡ found names.places position
position-before names position before = rw (le-ltb names.since position before) refl

-- what has a lasting position where nothing came after the present journal took its place is what is found
position-new : (names : Naming) (position : ℕ) → names.until ≡ names.from → (names.since < position → found names.places position ≡ None)
    → position_of names position ≡ found names.places position
position-new names position same none = elim (cases_lt names.since position) [
  | inl after ↦ position-past names position after (omega (arith, after, same)) ∙ sym (none after)
  | inr before ↦ position-before names position before
]

-- the names that were moved tell of each lasting task and position what stands for what the old ones tell of it

pub tasks-moved : (old : Naming) (names : Names) (until lasting : ℕ) → rises_between 0 old.made old.tasks ≡ true
    → (renaming_of (moved_names old names until)).task lasting ≡ option_and_then (named names.tasks) ((renaming_of old).task lasting)
tasks-moved old names until lasting rises = found-moved (named names.tasks) old.tasks 0 old.made lasting rises

places-moved : (old : Naming) (places : List Place) (position : ℕ) → rises_between 0 (suc old.since) old.places ≡ true
    → found (moved_places old places) position ≡ option_and_then (placed places) (position_of old position)
places-moved old places position rises =
    let before : List Row = moved (placed places) old.places in
    let after : List Row = later old.since old.from old.until places in
    let rise : rises_between 0 (suc old.since) before ≡ true = moved-rises (placed places) old.places 0 (suc old.since) rises in
    elim (cases_lt old.since position) [
      | inl follows ↦
          let none : found before position ≡ None = found_above before 0 (suc old.since) position rise (omega (arith, follows)) in
          let in_later : found (before ++ after) position ≡ found after position = found-second before after position none in
          elim (cases_lt (old.until - old.from) (position - old.since)) [
            | inl past ↦
                let no_place : found after position ≡ None =
                found-later-none old.since old.from old.until places position (λ less. past) in
                in_later ∙ no_place ∙ sym (ap (option_and_then (placed places)) (position-past old position follows past))
            | inr within ↦
                let place : found after position ≡ placed places (old.from + (position - old.since)) =
                found-later old.since old.from old.until places position follows within in
                in_later ∙ place ∙ sym (ap (option_and_then (placed places)) (position-later old position follows within))
          ]
      | inr precedes ↦
          let none : found after position ≡ None =
          found-later-none old.since old.from old.until places position (λ less. absurd (omega (arith, less, precedes))) in
          let in_first : found (before ++ after) position ≡ found before position = found-first before after position none in
          in_first ∙ found-moved (placed places) old.places 0 (suc old.since) position rises
          ∙ sym (ap (option_and_then (placed places)) (position-before old position precedes))
    ]

pub positions-moved : (old : Naming) (names : Names) (until position : ℕ) → rises_between 0 (suc old.since) old.places ≡ true
    → (renaming_of (moved_names old names until)).position position
    ≡ option_and_then (placed names.places) ((renaming_of old).position position)
positions-moved old names until position rises =
    let told = places-moved old names.places position rises in
    let none : length_of old < position → found (moved_places old names.places) position ≡ None = λ past.
    told ∙ ap (option_and_then (placed names.places)) (position-past old position (omega (arith, past)) (omega (arith, past))) in
    position-new (moved_names old names until) position refl none ∙ told

-- so what they tell is what the old ones tell and then the names of the new present journal
pub renaming-moved : (old : Naming) (names : Names) (until : ℕ) → rises_between 0 old.made old.tasks ≡ true
    → rises_between 0 (suc old.since) old.places ≡ true
    → renaming_of (moved_names old names until) ≡ chained (renaming_of old) (standing_of names)
renaming-moved old names until tasks places = λ i. record {
  task = λ u. tasks-moved old names until u tasks i;
  position = λ p. positions-moved old names until p places i;
}
