-- Tables whose queues, nests and phases follow an event stand for the journal with it.
use Rattle.std.proofs.Common.{◌≡◌, ◌<◌, None, List, ◌∷◌, length, refl, sym, ap, ◌∙◌, subst, arith}
use Rattle.ada_events.specs.declared.event.Event.{Event}
use Rattle.ada_events.specs.declared.event.Event.TheVariants.{Created}
use Rattle.ada_events.specs.declared.names.Family.{Family}
use Rattle.ada_events.specs.declared.names.Master.{Master}
use Rattle.ada_events.specs.declared.names.TaskNo.{TaskNo}
use Rattle.ada_events.specs.Limits.{slot_count}
use Rattle.ada_events.specs.Says.{creation_in}
use Rattle.ada_events.specs.Tasks.{task_count}
use Rattle.ada_events.specs.Nests.{nest}
use Rattle.ada_events.specs.Lawful.{IsLawful}
use Rattle.ada_laws.proofs.searching.Growing.{task_count-same}
use Rattle.ada_laws.proofs.entries.SlotLaws.{slot_count-same}
use Rattle.ada_tables.specs.Dependents.{Facts}
use Rattle.ada_tables.specs.Queues.{QueuedCall, queue_at}
use Rattle.ada_tables.specs.Tables.{TableState, slot_at, HasEntry}
use Rattle.ada_tables.specs.Standing.{phase_of, AreQueued, StandFor}
use Rattle.ada_records.specs.Facing.{HoldFacts, HoldQueues}
use Rattle.ada_records.proofs.following.TableChanges.{tables_follow, same_facts}

module _ (event : Event) (before : List Event) (old queued nested new : TableState) (makes : creation_in event ≡ None) (stand : StandFor old before)
    (once : queued ≡ record old { queues = queued.queues; spare = queued.spare }) (twice : nested ≡ record queued { tasks = nested.tasks })
    (thrice : new ≡ record nested { tasks = new.tasks }) where
  same_queues : new.queues ≡ queued.queues
  same_queues = ap (λ (s : TableState). s.queues) thrice ∙ ap (λ (s : TableState). s.queues) twice

  pub followed : IsLawful (event ∷ before) → HoldQueues queued (event ∷ before) → HoldFacts new.tasks (event ∷ before) → StandFor new (event ∷ before)
  followed lawful queues facts =
      tables_follow event before old new lawful makes stand (record {
        same = facts.many ∙ task_count-same event before makes ∙ sym stand.many;
        tasks = λ task below.
            let known : task < task_count before = omega (arith, below, stand.many) in
            facts.facts task (omega (arith, known, task_count-same event before makes))
            ∙ sym (same_facts event before task makes)
            ∙ ap (λ (f : Facts). record f { nest = nest (event ∷ before) task; phase = phase_of (event ∷ before) task }) (sym (stand.tasks task known));
        queues = λ task entry has.
            subst (λ (qs : List (List QueuedCall)). AreQueued (event ∷ before) task entry (queue_at qs (slot_at old.tasks task entry))) (sym same_queues)
            (subst (λ (ts : List Facts). AreQueued (event ∷ before) task entry (queue_at queued.queues (slot_at ts task entry)))
            (ap (λ (s : TableState). s.tasks) once)
            (queues task entry (subst (λ (s : TableState). HasEntry s.tasks task entry) (sym once) has)));
      })

  pub slots_followed : length queued.queues ≡ length old.queues → length old.queues ≡ slot_count before → length new.queues ≡ slot_count (event ∷ before)
  slots_followed kept was =
      ap (λ (qs : List (List QueuedCall)). length qs) same_queues ∙ kept ∙ was ∙ sym (slot_count-same event before makes)

-- an event of another kind than a creation makes no task
pub makes_none : (e : Event) → ((by : TaskNo) (under master : Master) (families : List Family) → e ≡ Created by under master families → ⊥)
    → creation_in e ≡ None
unfolding creation_in
makes_none (Created by under master families) other = absurd (other by under master families refl)
makes_none _ other = refl
