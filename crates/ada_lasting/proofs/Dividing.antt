-- From which number on tasks of the present journal stand for those from a lasting number on; and which lasting name a
-- task of the present journal has.
use Rattle.std.proofs.Common.{◌≡◌, ℕ, suc, ◌<◌, ◌≤◌, true, Option, Some, None, List, [], ◌∷◌, refl, sym, ap, ◌∙◌, inl, inr, arith}
use Rattle.std.specs.Prelude.{nat_le, ◌==◌}
use Rattle.std.specs.Option.{option_map, option_and_then, unwrap_or}
use Rattle.std.proofs.lemmas.Bool.{cases_lt, eq-eqb, ne_eqb, eqb-true, leb-true, leb-false, le-leb, lt-leb, ltb-true}
use Rattle.std.proofs.lemmas.Option.{none-some, same_Some}
use Rattle.ada_events.specs.declared.event.Event.{Event}
use Rattle.ada_events.specs.Tasks.{task_count}
use Rattle.ada_waiting.specs.Awaited.{first_awaited}
use Rattle.ada_lasting.specs.declared.rows.Row.{Row}
use Rattle.ada_lasting.specs.Naming.{found, renaming_of}
use Rattle.ada_lasting.specs.internal.Keeping.{rises_between}
use Rattle.ada_lasting.specs.internal.NamesBack.{named_by}
use Rattle.ada_lasting.specs.Following.{Long, Follows}
use Rattle.ada_lasting.specs.Waiting.{DivideAlike}
use Rattle.ada_lasting.specs.internal.Awaiting.{first_name, first_there}
use Rattle.ada_lasting.specs.internal.Present.{IsPresent}
use Rattle.ada_lasting.proofs.Finding.{first_of, if_cases}
use Rattle.ada_lasting.proofs.MovedNames.{found_below}
use Rattle.ada_lasting.proofs.NamesBack.{named_by-found, found-named_by}
use Rattle.ada_lasting.proofs.Waited.{waits}

-- the name is the least from a number on that leads to something
record IsLeast (rows : List Row) (from least : ℕ) : Type 0 where
  above : from ≤ least
  present : ℕ
  leads : found rows least ≡ Some present
  lower : (u v : ℕ) → found rows u ≡ Some v → from ≤ u → least ≤ u

-- a name that leads to something isn't below those that there may be
not_below : (rows : List Row) (low high u v : ℕ) → rises_between low high rows ≡ true → found rows u ≡ Some v → low ≤ u
not_below rows low high u v rises is = elim (cases_lt u low) [
  | inl below ↦ absurd (none-some v (sym (found_below rows low high u rises below) ∙ is))
  | inr within ↦ within
]

least_of : (rows : List Row) (low high from least : ℕ) → rises_between low high rows ≡ true → first_name rows from ≡ Some least
    → IsLeast rows from least
unfolding first_name found
least_of [] low high from least rises is = absurd (none-some least is)
least_of (row ∷ rest) low high from least rises is =
    let first = first_of low high row rest rises in
    elim (if_cases (nat_le from row.lasting) (Some row.lasting) (first_name rest from) (Some least) is) [
      | inl here ↦
          let same : row.lasting ≡ least = same_Some row.lasting least here.1 in
          let reaches : from ≤ row.lasting = leb-true from row.lasting here.0 in
          record {
            above = omega (arith, same, reaches);
            present = row.present;
            leads = rw (eq-eqb row.lasting least same) refl;
            lower = λ u v named above. elim (if_cases (row.lasting == u) (Some row.present) (found rest u) (Some v) named) [
              | inl it ↦ lower_here row.lasting least u same it.0
              | inr later ↦
                  let further = not_below rest (suc row.lasting) high u v first.later later.1 in
                  omega (arith, same, further)
            ];
          }
      | inr further ↦
          let short : row.lasting < from = leb-false from row.lasting further.0 in
          let rest_least = least_of rest (suc row.lasting) high from least first.later further.1 in
          record {
            above = rest_least.above;
            present = rest_least.present;
            leads = rw (ne_eqb row.lasting least (λ same. omega (arith, same, short, rest_least.above))) rest_least.leads;
            lower = λ u v named above. elim (if_cases (row.lasting == u) (Some row.present) (found rest u) (Some v) named) [
              | inl it ↦ absurd (too_low row.lasting u from short above it.0)
              | inr later ↦ rest_least.lower u v later.1 above
            ];
          }
    ]
  where
    lower_here : (l least u : ℕ) → l ≡ least → (l == u) ≡ true → least ≤ u
    lower_here l least u same it =
        let also : l ≡ u = eqb-true l u it in
        omega (arith, same, also)

    too_low : (l u from : ℕ) → l < from → from ≤ u → (l == u) ≡ true → ⊥
    too_low l u from short above it =
        let also : l ≡ u = eqb-true l u it in
        omega (arith, short, above, also)

none_from : (rows : List Row) (from u v : ℕ) → first_name rows from ≡ None → found rows u ≡ Some v → u < from
unfolding first_name found
none_from [] from u v none is = absurd (none-some v is)
none_from (row ∷ rest) from u v none is = elim (if_cases (nat_le from row.lasting) (Some row.lasting) (first_name rest from) None none) [
  | inl here ↦ absurd (none-some row.lasting (sym here.1))
  | inr further ↦ elim (if_cases (row.lasting == u) (Some row.present) (found rest u) (Some v) is) [
    | inl it ↦
        let also : row.lasting ≡ u = eqb-true row.lasting u it.0 in
        let short : row.lasting < from = leb-false from row.lasting further.0 in
        omega (arith, also, short)
    | inr later ↦ none_from rest from u v further.1 later.1
  ]
]

module _ (journal : List Event) (kernel : Long) (follows : Follows journal kernel) (is_present : IsPresent kernel) where
  rising : (s t u v : ℕ) → found kernel.names.tasks s ≡ Some u → found kernel.names.tasks t ≡ Some v → s < t → u < v
  rising = follows.stands.tasks.rising

  divides_at : (from least there : ℕ) → IsLeast kernel.names.tasks from least → found kernel.names.tasks least ≡ Some there
      → DivideAlike (renaming_of kernel.names) from there
  divides_at from least there is leads u v named = elim (cases_lt u from) [
    | inl below ↦
        let under : v < there = rising u least v there named leads (omega (arith, below, is.above)) in
        lt-leb there v under ∙ sym (lt-leb from u below)
    | inr above ↦
        let from_least : least ≤ u = is.lower u v named above in
        le-leb there v (not_under least u there v leads named from_least) ∙ sym (le-leb from u above)
  ]
    where
      not_under : (l u w v : ℕ) → found kernel.names.tasks l ≡ Some w → found kernel.names.tasks u ≡ Some v → l ≤ u → w ≤ v
      not_under l u w v leads named up = elim (cases_lt l u) [
        | inl less ↦
            let more = rising l u w v leads named less in
            omega (arith, more)
        | inr same ↦
            let at : l ≡ u = omega (arith, up, same) in
            let alike : w ≡ v = same_Some w v (sym leads ∙ (ap (found kernel.names.tasks) at ∙ named)) in
            omega (arith, alike)
      ]

  -- the numbers divide the tasks alike
  pub divide_alike : (from : ℕ) → DivideAlike (renaming_of kernel.names) from (first_there kernel.names.tasks from (task_count kernel.present))
  divide_alike from u v named = by (first_name kernel.names.tasks from) refl
    where
      by : (o : Option ℕ) → first_name kernel.names.tasks from ≡ o
          → nat_le (unwrap_or (option_and_then (found kernel.names.tasks) o) (task_count kernel.present)) v ≡ nat_le from u
      by None none =
          let below : u < from = none_from kernel.names.tasks from u v none named in
          let exists : v < task_count kernel.present = ltb-true v (task_count kernel.present) (follows.stands.same u v named).exists in
          lt-leb (task_count kernel.present) v exists ∙ sym (lt-leb from u below)
      by (Some least) is =
          let it = least_of kernel.names.tasks 0 kernel.names.made from least is_present.order.tasks is in
          rw it.leads (divides_at from least it.present it it.leads u v named)

  -- what stands for a task has it for its lasting name
  pub name_back : (u v : ℕ) → found kernel.names.tasks u ≡ Some v → named_by kernel.names.tasks v ≡ Some u
  name_back u v is =
      let (name, told) = found-named_by kernel.names.tasks u v is in
      let leads : found kernel.names.tasks name ≡ Some v =
      named_by-found kernel.names.tasks 0 kernel.names.made v name is_present.order.tasks told in
      told ∙ ap Some (same_name name u v leads is)
    where
      same_name : (s t v : ℕ) → found kernel.names.tasks s ≡ Some v → found kernel.names.tasks t ≡ Some v → s ≡ t
      same_name s t v first second = elim (cases_lt s t) [
        | inl less ↦
            let apart = rising s t v v first second less in
            absurd (omega (arith, apart))
        | inr up ↦ elim (cases_lt t s) [
          | inl more ↦
              let apart = rising t s v v second first more in
              absurd (omega (arith, apart))
          | inr also ↦ omega (arith, up, also)
        ]
      ]

  pub named_back : (o n : Option ℕ) → option_map (found kernel.names.tasks) o ≡ option_map Some n → option_and_then (named_by kernel.names.tasks) n ≡ o
  named_back None None is = refl
  named_back None (Some w) is = absurd (none-some _ is)
  named_back (Some t) None is = absurd (none-some _ (sym is))
  named_back (Some t) (Some w) is = name_back t w (same_Some _ _ is)

  -- the first task of a number or more for which a task waits that has this number in the present journal
  pub awaited_here : (task v from : ℕ) → found kernel.names.tasks task ≡ Some v
      → option_and_then (named_by kernel.names.tasks)
      (first_awaited kernel.present v (first_there kernel.names.tasks from (task_count kernel.present)))
      ≡ option_and_then (λ (n : ℕ). first_awaited journal task from) (found kernel.names.tasks task)
  awaited_here task v from is =
      let there = first_there kernel.names.tasks from (task_count kernel.present) in
      named_back (first_awaited journal task from) (first_awaited kernel.present v there)
      (((waits journal kernel follows is_present).tasks task v is).first follows.settled from there (divide_alike from))
      ∙ ap (option_and_then (λ (n : ℕ). first_awaited journal task from)) (sym is)
