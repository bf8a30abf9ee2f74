-- Names follow both journals as these grow.
use Rattle.std.proofs.Common.{◌≡◌, ◌≢◌, ℕ, suc, ◌+◌, ◌-◌, ◌<◌, ◌≤◌, Bool, true, false, Option, Some, None, List, [], ◌∷◌, ◌++◌, length}
use Rattle.std.proofs.Common.{refl, sym, ap, ◌∙◌, inl, inr, arith}
use Rattle.std.specs.Prelude.{◌==◌, if◌then◌else◌}
use Rattle.std.specs.Option.{option_or}
use Rattle.std.proofs.lemmas.Bool.{cases_eq, cases_lt, cases_Bool, ltb-true, lt-ltb, le-ltb, le-leb, lt-leb, ne_eqb, eq-eqb}
use Rattle.std.proofs.lemmas.List.{length-append, length-map}
use Rattle.ada_events.specs.declared.event.Event.{Event}
use Rattle.ada_events.specs.declared.request.Request.{Request}
use Rattle.ada_events.specs.declared.request.Request.TheVariants as request
use Rattle.ada_events.specs.Says.{creation_in}
use Rattle.ada_events.specs.Tasks.{task_count}
use Rattle.ada_events.specs.Asks.{asked_event}
use Rattle.ada_events.specs.Lawful.{After, Forces}
use Rattle.ada_laws.proofs.searching.Growing.{task_count-same}
use Rattle.ada_laws.proofs.forced.Stepping.{forced-step}
use Rattle.ada_standing.specs.Leading.{LedAlike}
use Rattle.ada_lasting.specs.declared.rows.Row.{Row}
use Rattle.ada_lasting.specs.Naming.{Naming, found, position_of, renaming_of, length_of}
use Rattle.ada_lasting.specs.internal.Keeping.{rises_between, with_task}
use Rattle.ada_lasting.specs.Refusing.{creates}
use Rattle.ada_lasting.proofs.MovedNames.{found_above}

-- how many tasks a request makes

forced_count : (from to : List Event) → Forces from to → task_count to ≡ task_count from
forced_count from to (Forces.nothing) = refl
forced_count from to (Forces.one_more {journal = journal} {event = event} before step) =
    task_count-same event journal (forced-step journal event step).makes_none ∙ forced_count from journal before

asked_count : (journal : List Event) (r : Request)
    → task_count (asked_event journal r ∷ journal) ≡ (if creates r then suc (task_count journal) else task_count journal)
unfolding task_count asked_event creation_in
asked_count journal (request.Create by master families) = omega arith
asked_count journal _ = omega arith

pub count_after : (old : List Event) (r : Request) (new : List Event) → After old r new
    → task_count new ≡ (if creates r then suc (task_count old) else task_count old)
count_after old r new after = forced_count (asked_event old r ∷ old) new after.forces ∙ asked_count old r

-- a name is found in the rows, or else in those after them
pub found_first : (rows more : List Row) (lasting : ℕ) → found (rows ++ more) lasting ≡ option_or (found rows lasting) (found more lasting)
unfolding found
found_first [] more lasting = refl
found_first (row ∷ rest) more lasting =
    elim (cases_Bool (row.lasting == lasting)) [
      | inl same ↦ rw same refl
      | inr other ↦ rw other (found_first rest more lasting)
    ]

-- one more row tells of its own name alone

last_same : (last : Row) (lasting : ℕ) → last.lasting ≡ lasting → option_or None (found (last ∷ []) lasting) ≡ Some last.present
unfolding found
last_same last lasting same = rw (eq-eqb last.lasting lasting same) refl

last_other : (o : Option ℕ) (last : Row) (lasting : ℕ) → last.lasting ≢ lasting → option_or o (found (last ∷ []) lasting) ≡ o
unfolding found
last_other None last lasting other = rw (ne_eqb last.lasting lasting other) refl
last_other (Some v) last lasting other = refl

-- the names after a request: of one task more if it makes one
abbrev pub names_after : Naming → Request → ℕ → ℕ → Naming
names_after names r task until = record {
  tasks = if creates r then (with_task names task).tasks else names.tasks;
  places = names.places;
  made = if creates r then suc names.made else names.made;
  since = names.since;
  from = names.from;
  until = until;
}

-- what both journals were, and what they grew to
module _ (old new : List Event) (names : Naming) (r : Request) (old_after new_after : List Event)
    (made : task_count old ≡ names.made) (long : length old ≡ length_of names) (short : length new ≡ names.until) (order : names.from ≤ names.until)
    (rises : rises_between 0 names.made names.tasks ≡ true)
    (led_old : After old r old_after) (led : LedAlike old new (renaming_of names) old_after new_after) where
  abbrev pub more : Naming
  more = names_after names r (task_count new) (length new_after)

  pub lengths : length old_after + length new ≡ length new_after + length old
  lengths =
      let same : length led.copies ≡ length led.steps = sym (length-map led.copies Some) ∙ (ap length led.renamed ∙ length-map led.steps _) in
      let grown : length old_after ≡ length led.steps + length old = ap length led.grown ∙ length-append led.steps old in
      let grown_too : length new_after ≡ length led.copies + length new = ap length led.grown_too ∙ length-append led.copies new in
      omega (arith, same, grown, grown_too)

  growth : length old ≤ length old_after
  growth = let grown : length old_after ≡ length led.steps + length old = ap length led.grown ∙ length-append led.steps old in omega (arith, grown)

  pub growth_too : length new ≤ length new_after
  growth_too = let grown : length new_after ≡ length led.copies + length new = ap length led.grown_too ∙ length-append led.copies new in omega (arith, grown)

  nobody_above : (u : ℕ) → task_count old_after ≤ u → None ≡ led.after.task u
  nobody_above u above = nothing (led.after.task u) refl
    where
      nothing : (o : Option ℕ) → led.after.task u ≡ o → None ≡ led.after.task u
      nothing None is = sym is
      nothing (Some v) is =
          let below : u < task_count old_after = ltb-true u (task_count old_after) (led.stands.same u v is).existed in
          absurd (omega (arith, below, above))

  abbrev last : Row
  last = record { lasting = names.made; present = task_count new }

  first_new : task_count old < task_count old_after → led.after.task (task_count old) ≡ Some (task_count new)
  first_new grew =
      let here : task_count old ≡ 0 + task_count old = omega arith in
      let there : 0 + task_count new ≡ task_count new = omega arith in
      ap led.after.task here ∙ (led.tasks 0 (omega (arith, grew)) ∙ ap Some there)

  -- by what the request makes
  tasks_by : (b : Bool) → task_count old_after ≡ (if b then suc (task_count old) else task_count old) → (u : ℕ)
      → found (if b then (with_task names (task_count new)).tasks else names.tasks) u ≡ led.after.task u
  tasks_by false count u =
      elim (cases_lt u (task_count old)) [
        | inl below ↦ sym (led.old_tasks u below)
        | inr above ↦ found_above names.tasks 0 names.made u rises (omega (arith, above, made)) ∙ nobody_above u (omega (arith, above, count))
      ]
  tasks_by true count u =
      let first = found_first names.tasks (last ∷ []) u in
      elim (cases_lt u (task_count old)) [
        | inl below ↦
            let other = last_other (found names.tasks u) last u (λ same. omega (arith, same, below, made)) in
            first ∙ (other ∙ sym (led.old_tasks u below))
        | inr above ↦
            let none = found_above names.tasks 0 names.made u rises (omega (arith, above, made)) in
            let to_last = first ∙ ap (λ o. option_or o (found (last ∷ []) u)) none in
            elim (cases_eq u (task_count old)) [
              | inl same ↦
                  to_last ∙ (last_same last u (sym (same ∙ made)) ∙ sym (ap led.after.task same ∙ first_new (omega (arith, count))))
              | inr other ↦
                  to_last ∙ (last_other None last u (λ same. other (sym same ∙ sym made)) ∙ nobody_above u (omega (arith, above, other, count)))
            ]
      ]

  pub tasks_follow : (u : ℕ) → found more.tasks u ≡ led.after.task u
  tasks_follow u = tasks_by (creates r) (count_after old r old_after led_old) u

  nowhere_above : (p : ℕ) → length old_after < p → None ≡ led.after.position p
  nowhere_above p above = nothing (led.after.position p) refl
    where
      nothing : (o : Option ℕ) → led.after.position p ≡ o → None ≡ led.after.position p
      nothing None is = sym is
      nothing (Some q) is =
          let below : p ≤ length old_after = (led.stands.positions.within p q is).0 in
          absurd (omega (arith, below, above))

  -- a position that both journals had before, by where it was
  pub positions_follow : (p : ℕ) → position_of more p ≡ led.after.position p
  positions_follow p =
      elim (cases_lt (length old_after) p) [
        | inl above ↦ beyond above ∙ nowhere_above p above
        | inr within ↦
            elim (cases_lt (length old) p) [
              | inl newer ↦ newly newer within
              | inr older ↦ before older ∙ sym (led.old_positions p older)
            ]
      ]
    where
      beyond : length old_after < p → position_of more p ≡ None
      beyond above =
          let past : names.since < p = omega (arith, above, long, order, lengths, short, growth, growth_too) in
          let outside : length new_after - names.from < p - names.since =
          omega (arith, above, long, order, lengths, short, growth, growth_too) in
          rw (lt-ltb names.since p past, lt-leb (p - names.since) (length new_after - names.from) outside) refl

      newly : length old < p → p ≤ length old_after → position_of more p ≡ led.after.position p
      newly newer within =
          let past : names.since < p = omega (arith, newer, long) in
          let k : ℕ = p - suc (length old) in
          let here : p ≡ suc (k + length old) = omega (arith, newer) in
          let there : names.from + (p - names.since) ≡ suc (k + length new) = omega (arith, newer, long, order, short) in
          let inside : p - names.since ≤ length new_after - names.from = omega (arith, within, long, order, lengths, short, growth_too) in
          rw (lt-ltb names.since p past, le-leb (p - names.since) (length new_after - names.from) inside)
          (ap Some there ∙ sym (ap led.after.position here ∙ led.positions k (omega (arith, newer, within))))

      before : p ≤ length old → position_of more p ≡ position_of names p
      before older =
          elim (cases_lt names.since p) [
            | inl past ↦
                let inside : p - names.since ≤ length new_after - names.from =
                omega (arith, older, long, order, lengths, short, growth, growth_too) in
                rw (
                  lt-ltb names.since p past,
                  le-leb (p - names.since) (length new_after - names.from) inside,
                  le-leb (p - names.since) (names.until - names.from) (omega (arith, older, long, order, past)),
                ) refl
            | inr early ↦ rw (le-ltb names.since p early) refl
          ]
