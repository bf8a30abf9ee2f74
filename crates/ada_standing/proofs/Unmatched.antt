-- When no names make a second journal stand in for a first one.
use Rattle.std.proofs.Common.{◌≡◌, ℕ, ◌<◌, Bool, true, false, not, Some, List, [], ◌∷◌, refl, sym, ap, ◌∙◌, true≢false}
use Rattle.std.specs.List.{list_any}
use Rattle.std.proofs.lemmas.Bool.{not-true, or_from, ltb-true}
use Rattle.std.proofs.lemmas.Option.{same_Some, none-some}
use Rattle.ada_events.specs.declared.event.Event.{Event}
use Rattle.ada_events.specs.declared.event.Event.TheVariants.{Started}
use Rattle.ada_events.specs.declared.names.TaskNo.{TaskNo}
use Rattle.ada_events.specs.declared.names.Family.{Family}
use Rattle.ada_events.specs.Search.{all_below, event_at}
use Rattle.ada_events.specs.Says.{Start, call_in, wait_in, delay_in, start_in, closing_in, held_in}
use Rattle.ada_events.specs.Tasks.{task_count, families_of}
use Rattle.ada_events.specs.Phases.{is_terminated, has_ended, has_failed, is_released}
use Rattle.ada_laws.specs.Suspension.{IsSuspendedAt}
use Rattle.ada_laws.proofs.searching.Searching.{all_below-holds}
use Rattle.ada_standing.specs.Renaming.{Renaming}
use Rattle.ada_standing.specs.Holds.{IsSameHold}
use Rattle.ada_standing.specs.StandsIn.{StandsIn, is_live}

-- a live task of the first journal passes a test of its entries and of its termination that no task of the second one passes
pub unmatched : (old new : List Event) (names : Renaming) (u : ℕ) (test : List Family → Bool → Bool) → is_live old u ≡ true
    → test (families_of old u) (is_terminated old u) ≡ true
    → all_below (λ v. not (test (families_of new v) (is_terminated new v))) (task_count new) ≡ true → StandsIn old new names → ⊥
unmatched old new names u test live passes none stands =
    let (v, named) = stands.tasks.live u live in
    let same = stands.same u v named in
    let below : v < task_count new = ltb-true v (task_count new) same.exists in
    let fails : test (families_of new v) (is_terminated new v) ≡ false =
    not-true _ (all_below-holds (λ v. not (test (families_of new v) (is_terminated new v))) (task_count new) v none below) in
    true≢false (sym passes ∙ rw (← same.families, ← same.terminated) fails)

none_of : (test : ℕ → Bool) (tasks : List TaskNo) → ((t : ℕ) → test t ≡ false) → list_any (λ (t : TaskNo). test t.0) tasks ≡ false
none_of test [] fails = refl
none_of test (task ∷ rest) fails = or_from (test task.0) (list_any (λ (t : TaskNo). test t.0) rest) (fails task.0) (none_of test rest fails)

-- what holds alike to a start with a task that failed is a start with a task that failed
failed_alike : (old new : List Event) (names : Renaming) (p q : ℕ) (by : TaskNo) (tasks : List TaskNo) (event : Event)
    → IsSameHold old new names p q (Started by tasks) event → list_any (λ (t : TaskNo). has_failed old t.0) tasks ≡ true
    → (others : List TaskNo) × (list_any (λ (t : TaskNo). has_failed new t.0) others ≡ true)
unfolding call_in wait_in delay_in start_in closing_in
failed_alike old new names p q by tasks event alike failed =
    elim alike [
      | IsSameHold.call c b is has same ↦ absurd (none-some c is)
      | IsSameHold.wait w v is has same ↦ absurd (none-some w is)
      | IsSameHold.pause a b is has same ↦ absurd (none-some a is)
      | IsSameHold.start s r is has same ↦
          let own : tasks ≡ s.tasks = ap (λ (x : Start). x.tasks) (same_Some _ s is) in
          (r.tasks, same.failed ∙ rw (← own) failed)
      | IsSameHold.close a b is has same ↦ absurd (none-some a is)
    ]

-- a start with a task that failed is pending in the first journal, and no task failed in the second one
pub failure_forgotten : (old new : List Event) (names : Renaming) (u v p : ℕ) (by : TaskNo) (tasks : List TaskNo)
    → event_at old p ≡ Some (Started by tasks) → held_in (Started by tasks) ≡ Some u → is_released old p ≡ false → has_ended old u ≡ false
    → list_any (λ (t : TaskNo). has_failed old t.0) tasks ≡ true → ((t : ℕ) → has_failed new t ≡ false)
    → names.task u ≡ Some v → StandsIn old new names → ⊥
failure_forgotten old new names u v p by tasks at holds unreleased active failed none named stands =
    let held : IsSuspendedAt old u p = record { event = Started by tasks; stands = at; holds = holds; unreleased = unreleased; live = active } in
    let there = (stands.active u v named active).held p held in
    let (others, some) = failed_alike old new names p there.at by tasks there.held.event there.alike failed in
    true≢false (sym some ∙ none_of (has_failed new) others none)
