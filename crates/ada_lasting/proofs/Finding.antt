-- Rows are found by their lasting names, since these rise.
use Rattle.std.proofs.Common.{◌≡◌, ◌≢◌, ◌⊎◌, ℕ, zero, suc, ◌+◌, ◌<◌, ◌≤◌, Bool, true, false, Some, None, List, [], ◌∷◌, ◌++◌, length, get_or, drop}
use Rattle.std.proofs.Common.{refl, sym, ap, ◌∙◌, inl, inr, arith}
use Rattle.std.specs.Prelude.{nat_le, nat_lt, ◌&&◌, ◌==◌, if◌then◌else◌}
use Rattle.std.specs.List.Sorted.{IsNonDecreasingBy}
use Rattle.std.specs.Ordering.{nat_cmp, ordering_index}
use Rattle.std.proofs.lemmas.List.Sorted.{IsNonDecreasingBy-from_default}
use Rattle.std.proofs.lemmas.Bool.{and_parts, leb-true, ltb-true, le-leb, lt-ltb, ne_eqb, eq-eqb}
use Rattle.std.proofs.lemmas.List.{at_drop_more}
use Rattle.std.proofs.lemmas.Option.{none-some, same_Some}
use Rattle.std.proofs.lemmas.Bool.Decides.{nat_tests}
use Rattle.ada_lasting.specs.declared.rows.Row.{Row}
use Rattle.ada_lasting.specs.Naming.{found}
use Rattle.ada_lasting.specs.internal.Keeping.{name_tasks, rises_between}

abbrev pub no_row : Row
no_row = record { lasting = 0; present = 0 }

-- what is known of the first row, and of the rest
pub record FirstOf (low high : ℕ) (row : Row) (rest : List Row) : Type 0 where
  pub above : low ≤ row.lasting
  pub below : row.lasting < high
  pub later : rises_between (suc row.lasting) high rest ≡ true

pub first_of : (low high : ℕ) (row : Row) (rest : List Row) → rises_between low high (row ∷ rest) ≡ true → FirstOf low high row rest
unfolding rises_between
first_of low high row rest rises =
    let both = and_parts (nat_le low row.lasting && nat_lt row.lasting high) (rises_between (suc row.lasting) high rest) rises in
    let here = and_parts (nat_le low row.lasting) (nat_lt row.lasting high) both.0 in
    record { above = leb-true low row.lasting here.0; below = ltb-true row.lasting high here.1; later = both.1 }

-- the lasting name of each row is at least the first that there may be
pub lasting_from : (rows : List Row) (low high i : ℕ) → rises_between low high rows ≡ true → i < length rows → low ≤ (get_or rows i no_row).lasting
lasting_from [] low high i rises within = absurd (omega (arith, within))
lasting_from (row ∷ rest) low high zero rises within = (first_of low high row rest rises).above
lasting_from (row ∷ rest) low high (suc i) rises within =
    let first = first_of low high row rest rises in
    let further = lasting_from rest (suc row.lasting) high i first.later (omega (arith, within)) in
    omega (arith, first.above, further)

pub lasting_rises : (rows : List Row) (low high i j : ℕ) → rises_between low high rows ≡ true → i < j → j < length rows
    → (get_or rows i no_row).lasting < (get_or rows j no_row).lasting
lasting_rises [] low high i j rises less within = absurd (omega (arith, within))
lasting_rises (row ∷ rest) low high zero zero rises less within = absurd (omega (arith, less))
lasting_rises (row ∷ rest) low high zero (suc j) rises less within =
    let first = first_of low high row rest rises in
    let further = lasting_from rest (suc row.lasting) high j first.later (omega (arith, within)) in
    omega (arith, further)
lasting_rises (row ∷ rest) low high (suc i) zero rises less within = absurd (omega (arith, less))
lasting_rises (row ∷ rest) low high (suc i) (suc j) rises less within =
    lasting_rises rest (suc row.lasting) high i j (first_of low high row rest rises).later (omega (arith, less)) (omega (arith, within))

-- a row is found by its lasting name
pub found_at : (rows : List Row) (low high i : ℕ) → rises_between low high rows ≡ true → i < length rows
    → found rows (get_or rows i no_row).lasting ≡ Some (get_or rows i no_row).present
unfolding found
found_at [] low high i rises within = absurd (omega (arith, within))
found_at (row ∷ rest) low high zero rises within = rw (eq-eqb row.lasting row.lasting refl) refl
found_at (row ∷ rest) low high (suc i) rises within =
    let first = first_of low high row rest rises in
    let further : suc row.lasting ≤ (get_or rest i no_row).lasting = lasting_from rest (suc row.lasting) high i first.later (omega (arith, within)) in
    rw (ne_eqb row.lasting (get_or rest i no_row).lasting (λ same. omega (arith, same, further)))
    (found_at rest (suc row.lasting) high i first.later (omega (arith, within)))

-- a name that no row has isn't found
pub found_nowhere : (rows : List Row) (lasting : ℕ) → ((i : ℕ) → i < length rows → (get_or rows i no_row).lasting ≢ lasting) → found rows lasting ≡ None
unfolding found
found_nowhere [] lasting other = refl
found_nowhere (row ∷ rest) lasting other =
    rw (ne_eqb row.lasting lasting (other 0 (omega arith))) (found_nowhere rest lasting (λ i within. other (suc i) (omega (arith, within))))

-- the comparisons with a name rise along the rows, as a binary search asks
pub comparisons_rise : (rows : List Row) (low high lasting : ℕ) → rises_between low high rows ≡ true
    → IsNonDecreasingBy (λ (row : Row). ordering_index (nat_cmp row.lasting lasting)) rows
comparisons_rise rows low high lasting rises =
    IsNonDecreasingBy-from_default (λ (row : Row). ordering_index (nat_cmp row.lasting lasting)) rows no_row (λ i j le within.
    let rise : i < j → (get_or rows i no_row).lasting < (get_or rows j no_row).lasting = λ less. lasting_rises rows low high i j rises less within in
    let same : i ≡ j → (get_or rows i no_row).lasting ≡ (get_or rows j no_row).lasting = λ at. ap (λ n. (get_or rows n no_row).lasting) at in
    grind (arith, nat_tests, rise, same))

-- the limits of lasting names may be wider
pub rises_wider : (rows : List Row) (low high more : ℕ) → rises_between low high rows ≡ true → high ≤ more → rises_between low more rows ≡ true
unfolding rises_between
rises_wider [] low high more rises wider = refl
rises_wider (row ∷ rest) low high more rises wider =
    let first = first_of low high row rest rises in
    rw (le-leb low row.lasting first.above, lt-ltb row.lasting more (omega (arith, first.below, wider)))
    (rises_wider rest (suc row.lasting) high more first.later wider)

-- one more row has a greater name
pub rises_more : (rows : List Row) (last : Row) (low high more : ℕ) → rises_between low high rows ≡ true → low ≤ last.lasting → high ≤ last.lasting
    → last.lasting < more → rises_between low more (rows ++ (last ∷ [])) ≡ true
unfolding rises_between
rises_more [] last low high more rises above after below = rw (le-leb low last.lasting above, lt-ltb last.lasting more below) refl
rises_more (row ∷ rest) last low high more rises above after below =
    let first = first_of low high row rest rises in
    rw (le-leb low row.lasting first.above, lt-ltb row.lasting more (omega (arith, first.below, after, below)))
    (rises_more rest last (suc row.lasting) high more first.later (omega (arith, first.below, after)) after below)

-- the rows before the last one have smaller names
pub rises_less : (rows : List Row) (last : Row) (low high : ℕ) → rises_between low high (rows ++ (last ∷ [])) ≡ true
    → rises_between low last.lasting rows ≡ true
unfolding rises_between
rises_less [] last low high rises = refl
rises_less (row ∷ rest) last low high rises =
    let first = first_of low high row (rest ++ (last ∷ [])) rises in
    let below : row.lasting < last.lasting = last_from rest last (suc row.lasting) high first.later in
    rw (le-leb low row.lasting first.above, lt-ltb row.lasting last.lasting below) (rises_less rest last (suc row.lasting) high first.later)
  where
    last_from : (rows : List Row) (last : Row) (low high : ℕ) → rises_between low high (rows ++ (last ∷ [])) ≡ true → low ≤ last.lasting
    last_from [] last low high rises = (first_of low high last [] rises).above
    last_from (row ∷ rest) last low high rises =
        let first = first_of low high row (rest ++ (last ∷ [])) rises in
        let further = last_from rest last (suc row.lasting) high first.later in
        omega (arith, first.above, further)

pub if_cases : {A : Type 0} → (b : Bool) (x y z : A) → (if b then x else y) ≡ z → ((b ≡ true) × (x ≡ z)) ⊎ ((b ≡ false) × (y ≡ z))
if_cases true x y z is = inl (refl, is)
if_cases false x y z is = inr (refl, is)

-- what rows of tasks name is a task's number
pub found_task : (rows : List Row) (lasting present : ℕ) → name_tasks rows ≡ true → found rows lasting ≡ Some present → present < 65536
unfolding found
found_task [] lasting present small is = absurd (none-some present is)
found_task (row ∷ rest) lasting present small is =
    let both = and_parts (nat_lt row.present 65536) (name_tasks rest) small in
    elim (if_cases (row.lasting == lasting) (Some row.present) (found rest lasting) (Some present) is) [
      | inl here ↦
          let same : row.present ≡ present = same_Some row.present present here.1 in
          let less : row.present < 65536 = ltb-true row.present 65536 both.0 in
          omega (arith, same, less)
      | inr later ↦ found_task rest lasting present both.1 later.1
    ]

pub name_tasks-more : (rows : List Row) (last : Row) → name_tasks rows ≡ true → last.present < 65536 → name_tasks (rows ++ (last ∷ [])) ≡ true
name_tasks-more [] last small below = rw (lt-ltb last.present 65536 below) refl
name_tasks-more (row ∷ rest) last small below =
    let both = and_parts (nat_lt row.present 65536) (name_tasks rest) small in
    rw both.0 (name_tasks-more rest last both.1 below)

pub name_tasks-less : (rows : List Row) (last : Row) → name_tasks (rows ++ (last ∷ [])) ≡ true → name_tasks rows ≡ true
name_tasks-less [] last small = refl
name_tasks-less (row ∷ rest) last small =
    let both = and_parts (nat_lt row.present 65536) (name_tasks (rest ++ (last ∷ []))) small in
    rw both.0 (name_tasks-less rest last both.1)

pub name_tasks-step : (rows : List Row) (i : ℕ) → i < length rows → name_tasks (drop i rows) ≡ true → name_tasks (drop (i + 1) rows) ≡ true
name_tasks-step rows i within small =
    let row : Row = get_or rows i no_row in
    let here : name_tasks (row ∷ drop (i + 1) rows) ≡ true = sym (at_drop_more name_tasks rows i no_row within) ∙ small in
    (and_parts (nat_lt row.present 65536) (name_tasks (drop (i + 1) rows)) here).1
