-- Tables that change only nests, phases and queues, as one more event says, keep standing.
use Rattle.std.proofs.Common.{◌≡◌, ℕ, suc, ◌<◌, None, IsSome, List, [], ◌∷◌, length, refl, sym, ap, ◌∙◌, subst, arith}
use Rattle.ada_events.specs.declared.event.Event.{Event}
use Rattle.ada_events.specs.declared.names.Entry.{Entry}
use Rattle.ada_events.specs.declared.names.Family.{Family}
use Rattle.ada_events.specs.Says.{creation_in}
use Rattle.ada_events.specs.Tasks.{task_count, families_of}
use Rattle.ada_events.specs.Nests.{nest}
use Rattle.ada_events.specs.Slots.{number_within}
use Rattle.ada_events.specs.Lawful.{IsLawful}
use Rattle.ada_laws.proofs.searching.Growing.{task_count-same}
use Rattle.ada_tables.specs.Dependents.{Facts, task_at}
use Rattle.ada_tables.specs.Queues.{queue_at}
use Rattle.ada_tables.specs.Tables.{TableState, declared, slot_at, HasEntry}
use Rattle.ada_tables.specs.Standing.{phase_of, facts_in, AreQueued, StandFor}
use Rattle.ada_records.specs.TableChanges.{AreFollowing, TablesFollow}
use Rattle.ada_records.proofs.recording.Creations.{same_creation}
use Rattle.ada_records.proofs.following.Standing.{held_tables_stand}

pub same_facts : (event : Event) (before : List Event) (task : ℕ) → creation_in event ≡ None → record (facts_in before task) {
  nest =
      nest (event ∷ before) task;
  phase = phase_of (event ∷ before) task;
} ≡ facts_in (event ∷ before) task
unfolding families_of
same_facts event before task makes = rw (same_creation event before task makes) refl

-- where the families of all tasks stay, so do all slots
same_declared : (old new : List Facts) → length new ≡ length old → ((task : ℕ) → task < length old → (task_at new task).families ≡ (task_at old task).families)
    → declared new ≡ declared old
same_declared [] [] many same = refl
same_declared [] (y ∷ new) many same = absurd (omega (arith, many))
same_declared (x ∷ old) [] many same = absurd (omega (arith, many))
same_declared (x ∷ old) (y ∷ new) many same =
    rw (same 0 (omega arith))
    (ap (λ (fs : List (List Family)). x.families ∷ fs) (same_declared old new (omega (arith, many)) (λ task below. same (suc task) (omega (arith, below)))))

module _ (event : Event) (before : List Event) (old new : TableState) (lawful : IsLawful (event ∷ before)) (makes : creation_in event ≡ None)
    (stand : StandFor old before) (following : AreFollowing event before old new) where
  same_families : (task : ℕ) → task < length old.tasks → (task_at new.tasks task).families ≡ (task_at old.tasks task).families
  same_families task below = ap (λ (f : Facts). f.families) (following.tasks task below)

  facts_follow : (task : ℕ) → task < task_count (event ∷ before) → task_at new.tasks task ≡ facts_in (event ∷ before) task
  facts_follow task below =
      let known : task < task_count before = omega (arith, below, task_count-same event before makes) in
      following.tasks task (omega (arith, known, stand.many))
      ∙ ap (λ (f : Facts). record f { nest = nest (event ∷ before) task; phase = phase_of (event ∷ before) task }) (stand.tasks task known)
      ∙ same_facts event before task makes

  slot_same : (task : ℕ) (entry : Entry) → task < length old.tasks → slot_at new.tasks task entry ≡ slot_at old.tasks task entry
  slot_same task entry below =
      rw (same_declared old.tasks new.tasks following.same same_families, same_families task below) refl

  entry_same : (task : ℕ) (entry : Entry) → HasEntry new.tasks task entry → HasEntry old.tasks task entry
  entry_same task entry has =
      let known : task < length old.tasks = omega (arith, has.known, following.same) in
      record { known = known; declares = subst (λ (fs : List Family). IsSome (number_within fs entry)) (same_families task known) has.declares }

  follow : StandFor new (event ∷ before)
  follow =
      held_tables_stand new (event ∷ before) lawful
      (record { many = following.same ∙ stand.many ∙ sym (task_count-same event before makes); facts = facts_follow })
      (λ task entry has.
      let was = entry_same task entry has in
      subst (λ (slot : ℕ). AreQueued (event ∷ before) task entry (queue_at new.queues slot)) (sym (slot_same task entry was.known))
      (following.queues task entry was))

pub tables_follow : TablesFollow
tables_follow event before old new lawful makes stand following = follow event before old new lawful makes stand following
