-- The creation of a task, and where it stands, after one more event.
use Rattle.std.proofs.Common.{◌≡◌, ◌≢◌, ℕ, suc, ◌+◌, ◌<◌, ◌≤◌, eqb, Option, Some, None, List, [], ◌∷◌, length, sym, refl, ap, ◌∙◌}
use Rattle.std.proofs.Common.{subst, arith, inl, inr}
use Rattle.std.specs.Option.{option_and_then}
use Rattle.std.proofs.lemmas.Bool.{cases_eq, eq-eqb, ne_eqb}
use Rattle.ada_events.specs.declared.event.Event.{Event}
use Rattle.ada_events.specs.Search.{event_at}
use Rattle.ada_events.specs.Says.{Creation, creation_in}
use Rattle.ada_events.specs.Tasks.{task_count, creation_of}
use Rattle.ada_laws.proofs.searching.Growing.{task_count-more}
use Rattle.ada_laws.proofs.searching.Searching.{event_at-newest}
use Rattle.ada_records.specs.Records.{IsCreatedAt}
use Rattle.ada_records.proofs.following.Entries.{creation_exists}
use Rattle.ada_events.proofs.Positions.{event_at-other}
use Rattle.ada_step_laws.proofs.changing.Calling.{no_creation}

-- an event that makes no task changes no creation
pub same_creation : (event : Event) (before : List Event) (task : ℕ) → creation_in event ≡ None → creation_of (event ∷ before) task ≡ creation_of before task
unfolding creation_of
same_creation event before task makes = rw makes (no_creation (eqb task (task_count before)) (creation_of before task))

-- an event changes no creation but that of the next task
others_creation : (event : Event) (before : List Event) (task : ℕ) → task ≢ task_count before → creation_of (event ∷ before) task ≡ creation_of before task
unfolding creation_of
others_creation event before task other = rw (ne_eqb task (task_count before) other) refl

pub older_creation : (event : Event) (before : List Event) (task : ℕ) → task < task_count before → creation_of (event ∷ before) task ≡ creation_of before task
older_creation event before task below = others_creation event before task (λ same. omega (arith, same, below))

pub new_creation : (event : Event) (before : List Event) (c : Creation) → creation_in event ≡ Some c → creation_of (event ∷ before) (task_count before) ≡ Some c
unfolding creation_of
new_creation event before c says = rw (eq-eqb (task_count before) (task_count before) refl, says) refl

-- no task has no creation
pub unmade_none : (journal : List Event) (task : ℕ) → task_count journal ≤ task → creation_of journal task ≡ None
unmade_none journal task beyond = of_creation (creation_of journal task) refl
  where
    of_creation : (o : Option Creation) → creation_of journal task ≡ o → o ≡ None
    of_creation None made = refl
    of_creation (Some c) made = absurd (omega (arith, beyond, creation_exists journal task c made))

-- so one more event changes none of a task that isn't made by it either
pub unmade_creation : (event : Event) (before : List Event) (task : ℕ) → task_count (event ∷ before) ≤ task
    → creation_of (event ∷ before) task ≡ creation_of before task
unmade_creation event before task beyond =
    unmade_none (event ∷ before) task beyond ∙ sym (unmade_none before task (omega (arith, beyond, task_count-more event before)))

-- a creation stands where it stood
pub created_still : (event : Event) (before : List Event) (task at : ℕ) → creation_of (event ∷ before) task ≡ creation_of before task
    → IsCreatedAt before task at → IsCreatedAt (event ∷ before) task at
created_still event before task at same old = record {
  stands = ap (option_and_then creation_in) (event_at-other event before at (λ newest. omega (arith, newest, old.within))) ∙ old.stands ∙ sym same;
  within = omega (arith, old.within);
}

pub created_kept : (event : Event) (before : List Event) (task at : ℕ) → creation_in event ≡ None → IsCreatedAt before task at
    → IsCreatedAt (event ∷ before) task at
created_kept event before task at makes old = created_still event before task at (same_creation event before task makes) old

-- the creation of a new task is the newest event
pub created_now : (event : Event) (before : List Event) (c : Creation) → creation_in event ≡ Some c
    → IsCreatedAt (event ∷ before) (task_count before) (length before + 1)
created_now event before c makes =
    let next : length before + 1 ≡ suc (length before) = omega arith in
    record {
      stands =
          ap (λ p. option_and_then creation_in (event_at (event ∷ before) p)) next ∙ ap (option_and_then creation_in) (event_at-newest event before) ∙ makes
          ∙ sym (new_creation event before c makes);
      within = omega arith;
    }

-- each task's creation stands somewhere
stands_later : (event : Event) (before : List Event) (task : ℕ) → (at : ℕ) × IsCreatedAt before task at → (at : ℕ) × IsCreatedAt (event ∷ before) task at
stands_later event before task old =
    elim (cases_eq task (task_count before)) [
      | inl newest ↦ by_event (creation_in event) refl newest
      | inr other ↦ still (others_creation event before task other)
    ]
  where
    still : creation_of (event ∷ before) task ≡ creation_of before task → (at : ℕ) × IsCreatedAt (event ∷ before) task at
    still same = (old.0, created_still event before task old.0 same old.1)

    by_event : (o : Option Creation) → creation_in event ≡ o → task ≡ task_count before → (at : ℕ) × IsCreatedAt (event ∷ before) task at
    by_event None makes newest = still (same_creation event before task makes)
    by_event (Some c) makes newest =
        (length before + 1, subst (λ (u : ℕ). IsCreatedAt (event ∷ before) u (length before + 1)) (sym newest) (created_now event before c makes))

pub creation_stands : (journal : List Event) (task : ℕ) → (at : ℕ) × IsCreatedAt journal task at
unfolding creation_of event_at
creation_stands [] task = (0, record { stands = refl; within = omega arith })
creation_stands (event ∷ before) task = stands_later event before task (creation_stands before task)
