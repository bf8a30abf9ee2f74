-- The masters of tasks stay right as the journal grows, as names are given up, and where a shorter journal is taken.
use Rattle.std.proofs.Common.{◌≡◌, ◌⊎◌, ℕ, Bool, true, false, Option, Some, None, List, [], ◌∷◌, ◌++◌, refl, sym, ap, ◌∙◌, subst}
use Rattle.std.proofs.Common.{inl, inr}
use Rattle.std.specs.Prelude.{◌==◌, if◌then◌else◌}
use Rattle.std.specs.Option.{option_map, is_some}
use Rattle.std.specs.List.{All}
use Rattle.std.proofs.lemmas.Bool.{cases_Bool, or_cases, or_left, or_right, eqb-true, eq-eqb, false≢true}
use Rattle.std.proofs.lemmas.Option.{none-some}
use Rattle.std.proofs.lemmas.List.Elements.{All-head, All-tail, All-push, All-weaker, All-filter}
use Rattle.std.proofs.lemmas.List.Folds.{list_any-append}
use Rattle.ada_events.specs.declared.event.Event.{Event}
use Rattle.ada_events.specs.declared.names.Master.{Master}
use Rattle.ada_events.specs.declared.request.Request.{Request}
use Rattle.ada_events.specs.declared.request.Request.TheVariants as request
use Rattle.ada_events.specs.Says.{Creation, creation_in}
use Rattle.ada_events.specs.Tasks.{task_count, creation_of}
use Rattle.ada_events.specs.Asks.{asked_event}
use Rattle.ada_events.specs.Lawful.{After, Forces}
use Rattle.ada_laws.proofs.searching.Searching.{option_or-some, option_map-some}
use Rattle.ada_records.proofs.following.Entries.{creation_exists}
use Rattle.ada_standing.proofs.kept.Naming.{creation_older, creation_newest}
use Rattle.ada_lasting.specs.declared.masters.Dependent.{Dependent}
use Rattle.ada_lasting.specs.declared.requests.LastingMaster.{LastingMaster}
use Rattle.ada_lasting.specs.declared.rows.Row.{Row}
use Rattle.ada_lasting.specs.Naming.{Naming, found}
use Rattle.ada_lasting.specs.Meaning.{meant_master}
use Rattle.ada_lasting.specs.Remembering.{IsRemembered, KnowsMasters, has_master}
use Rattle.ada_lasting.specs.internal.Keeping.{with_task}
use Rattle.ada_lasting.specs.internal.Mastering.{asked_under, masters_next, named_masters}
use Rattle.ada_lasting.specs.Refusing.{creates}
use Rattle.ada_lasting.proofs.Finding.{if_cases}
use Rattle.ada_lasting.proofs.Growing.{found_first, names_after}

-- a creation stays as it was

forced_creation : (from to : List Event) (task : ℕ) (c : Creation) → Forces from to → creation_of from task ≡ Some c → creation_of to task ≡ Some c
forced_creation from to task c (Forces.nothing) is = is
forced_creation from to task c (Forces.one_more {journal = journal} {event = event} before step) is =
    let was : creation_of journal task ≡ Some c = forced_creation from journal task c before is in
    creation_older event journal task (creation_exists journal task c was) ∙ was

creation_after : (old : List Event) (r : Request) (new : List Event) (task : ℕ) (c : Creation) → After old r new → creation_of old task ≡ Some c
    → creation_of new task ≡ Some c
creation_after old r new task c after is =
    forced_creation (asked_event old r ∷ old) new task c after.forces
    (creation_older (asked_event old r) old task (creation_exists old task c is) ∙ is)

-- the task that a request makes depends on the master that was asked for
made_under : (old : List Event) (r : Request) (new : List Event) (x : Master) → After old r new → asked_under r ≡ Some x
    → option_map (λ (c : Creation). c.master) (creation_of new (task_count old)) ≡ Some x
unfolding asked_event creation_in
made_under old (request.Create by under families) new x after asks =
    ap (option_map (λ (c : Creation). c.master))
    (forced_creation (asked_event old (request.Create by under families) ∷ old) new (task_count old) _ after.forces
    (creation_newest (asked_event old (request.Create by under families)) old (task_count old) _ refl refl)) ∙ asks
made_under old r new x after asks = absurd (none-some x asks)

remembered_after : (old : List Event) (r : Request) (new : List Event) (d : Dependent) → After old r new → IsRemembered old d → IsRemembered new d
remembered_after old r new d after is =
    let (c, has, master) = option_map-some (λ (c : Creation). c.master) (creation_of old d.task) (meant_master d.master) is in
    ap (option_map (λ (c : Creation). c.master)) (creation_after old r new d.task c after has) ∙ ap Some master

-- the names that there are after a request, and their masters

found_last : (rows : List Row) (last : Row) (task v : ℕ) → found (rows ++ (last ∷ [])) task ≡ Some v
    → (found rows task ≡ Some v) ⊎ (last.lasting ≡ task)
unfolding found
found_last rows last task v is =
    elim (option_or-some (found rows task) (found (last ∷ []) task) v (sym (found_first rows (last ∷ []) task) ∙ is)) [
      | inl before ↦ inl before
      | inr now ↦ elim (if_cases (last.lasting == task) (Some last.present) None (Some v) now) [
        | inl here ↦ inr (eqb-true last.lasting task here.0)
        | inr other ↦ absurd (none-some v other.1)
      ]
    ]

master_before : (dependents : List Dependent) (last : Dependent) (task : ℕ) → has_master dependents task ≡ true
    → has_master (dependents ++ (last ∷ [])) task ≡ true
master_before dependents last task has =
    list_any-append (λ (d : Dependent). d.task == task) dependents (last ∷ [])
    ∙ or_left (has_master dependents task) (has_master (last ∷ []) task) has

master_last : (dependents : List Dependent) (last : Dependent) (task : ℕ) → last.task ≡ task → has_master (dependents ++ (last ∷ [])) task ≡ true
master_last dependents last task same =
    list_any-append (λ (d : Dependent). d.task == task) dependents (last ∷ [])
    ∙ or_right (has_master dependents task) (has_master (last ∷ []) task)
    (or_left (last.task == task) false (eq-eqb last.task task same))

pub masters_after : (old : List Event) (r : Request) (new : List Event) (names : Naming) (dependents : List Dependent) (master : Option LastingMaster)
    (task until : ℕ) → task_count old ≡ names.made → option_map meant_master master ≡ asked_under r → is_some master ≡ creates r → After old r new
    → KnowsMasters old names dependents → KnowsMasters new (names_after names r task until) (masters_next master names.made dependents)
masters_after old r new names dependents None task until made asks makes after knows = record {
  right = All-weaker (IsRemembered old) (IsRemembered new) (λ d is. remembered_after old r new d after is) dependents knows.right;
  complete = λ u v is other.
      let unmade : (if creates r then (with_task names task).tasks else names.tasks) ≡ names.tasks =
      ap (λ (b : Bool). if b then (with_task names task).tasks else names.tasks) (sym makes) in
      knows.complete u v (ap (λ (rows : List Row). found rows u) (sym unmade) ∙ is) other;
}
masters_after old r new names dependents (Some master) task until made asks makes after knows =
    let last : Dependent = record { task = names.made; master = master } in
    let before : All (IsRemembered new) dependents =
    All-weaker (IsRemembered old) (IsRemembered new) (λ d is. remembered_after old r new d after is) dependents knows.right in
    let newest : IsRemembered new last =
    subst (λ (n : ℕ). option_map (λ (c : Creation). c.master) (creation_of new n) ≡ Some (meant_master master)) made
    (made_under old r new (meant_master master) after (sym asks)) in
    record {
      right = All-push (IsRemembered new) dependents last before newest;
      complete = λ u v is other.
          let made_one : (if creates r then (with_task names task).tasks else names.tasks) ≡ (with_task names task).tasks =
          ap (λ (b : Bool). if b then (with_task names task).tasks else names.tasks) (sym makes) in
          elim (found_last names.tasks (record { lasting = names.made; present = task }) u v
          (ap (λ (rows : List Row). found rows u) (sym made_one) ∙ is)) [
            | inl older ↦ master_before dependents last u (knows.complete u v older other)
            | inr same ↦ master_last dependents last u same
          ];
    }

-- where fewer tasks have names, the same masters are enough
pub masters_fewer : (journal : List Event) (names fewer : Naming) (dependents : List Dependent)
    → ((task v : ℕ) → found fewer.tasks task ≡ Some v → (w : ℕ) × (found names.tasks task ≡ Some w)) → KnowsMasters journal names dependents
    → KnowsMasters journal fewer dependents
masters_fewer journal names fewer dependents kept knows = record {
  right = knows.right;
  complete = λ task v is other. let (w, was) = kept task v is in knows.complete task w was other;
}

-- and so are those of the tasks that have names

named_has : (names : Naming) (dependents : List Dependent) (task v : ℕ) → found names.tasks task ≡ Some v → has_master dependents task ≡ true
    → has_master (named_masters names dependents) task ≡ true
named_has names [] task v is has = absurd (false≢true has)
named_has names (d ∷ rest) task v is has =
    elim (or_cases (d.task == task) (has_master rest task) has) [
      | inl here ↦
          let same : d.task ≡ task = eqb-true d.task task here in
          let named : is_some (found names.tasks d.task) ≡ true = ap (λ (n : ℕ). is_some (found names.tasks n)) same ∙ ap is_some is in
          rw named (or_left (d.task == task) (has_master (named_masters names rest) task) here)
      | inr later ↦
          let further = named_has names rest task v is later in
          elim (cases_Bool (is_some (found names.tasks d.task))) [
            | inl named ↦ rw named (or_right (d.task == task) (has_master (named_masters names rest) task) further)
            | inr unnamed ↦ rw unnamed further
          ]
    ]

pub masters_named : (journal : List Event) (names : Naming) (dependents : List Dependent) → KnowsMasters journal names dependents
    → KnowsMasters journal names (named_masters names dependents)
masters_named journal names dependents knows = record {
  right = All-filter (λ (d : Dependent). is_some (found names.tasks d.task)) (IsRemembered journal) dependents knows.right;
  complete = λ task v is other. named_has names dependents task v is (knows.complete task v is other);
}

-- what holds of all masters, two facts here, holds of the task's
pub master_of : (P Q : Dependent → Type 0) (dependents : List Dependent) (task : ℕ) → All P dependents → All Q dependents
    → has_master dependents task ≡ true → (d : Dependent) × (d.task ≡ task) × P d × Q d
master_of P Q [] task all also has = absurd (false≢true has)
master_of P Q (d ∷ rest) task all also has =
    elim (or_cases (d.task == task) (has_master rest task) has) [
      | inl here ↦ (d, eqb-true d.task task here, All-head P d rest all, All-head Q d rest also)
      | inr later ↦ master_of P Q rest task (All-tail P d rest all) (All-tail Q d rest also) later
    ]
