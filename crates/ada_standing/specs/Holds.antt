-- What holds up a task (9.3 to 9.7): when a call, wait, delay, start or close of one journal is that of another.
use Rattle.std.specs.Prelude.{◌≡◌, ℕ, Bool, false, ◌&&◌, ◌||◌, Some, List, is_some}
use Rattle.std.specs.List.{list_any}
use Rattle.ada_events.specs.declared.event.Event.{Event}
use Rattle.ada_events.specs.declared.names.TaskNo.{TaskNo}
use Rattle.ada_events.specs.Search.{is_some_and}
use Rattle.ada_events.specs.Phases.{lists_task, has_failed}
use Rattle.ada_events.specs.Calls.{is_met}
use Rattle.ada_events.specs.Says.{Call, Wait, Delay, Start, Closing, call_in, wait_in, delay_in, start_in, closing_in}
use Rattle.ada_events.specs.Waits.{tail_due}
use Rattle.ada_events.specs.Forced.{is_conditional, is_done_activating, task_no}
use Rattle.ada_standing.specs.Renaming.{Renaming}

-- the calls at two positions: of the task that stands for the callee, at the same entry; in a rendezvous or not;
-- and while they are queued, due at the same moment, and conditional or not (9.5, 9.7.2, 9.7.3)
pub record IsSameCall (old new : List Event) (names : Renaming) (p q : ℕ) (c d : Call) : Type 0 where
  pub callee : names.task c.callee ≡ Some d.callee
  pub entry : d.entry ≡ c.entry
  pub met : is_met new q ≡ is_met old p
  pub conditional : is_met old p ≡ false → is_conditional d.patience ≡ is_conditional c.patience
  pub due : is_met old p ≡ false → d.due ≡ c.due

-- two waits: the same choices, the same tail with the same due moments, the same pick (9.7.1)
pub record IsSameWait (w v : Wait) : Type 0 where
  pub choices : v.choices ≡ w.choices
  pub tail : v.tail ≡ w.tail
  pub pick : v.pick ≡ w.pick

-- two starts: the same tasks are still in their activation, and a task failed in it or none (9.3)
pub record IsSameStart (old new : List Event) (names : Renaming) (s r : Start) : Type 0 where
  pub pending : (u v : ℕ) → names.task u ≡ Some v → is_done_activating old (task_no u) ≡ false
      → lists_task v r.tasks ≡ lists_task u s.tasks
  pub failed : list_any (λ (t : TaskNo). has_failed new t.0) r.tasks ≡ list_any (λ (t : TaskNo). has_failed old t.0) s.tasks

-- the event at p in the old journal, and the one at q in the new one, hold a task up alike
pub data IsSameHold (old new : List Event) (names : Renaming) (p q : ℕ) (d e : Event) : Type 0 where
  call : (c b : Call) → call_in d ≡ Some c → call_in e ≡ Some b → IsSameCall old new names p q c b → IsSameHold old new names p q d e
  wait : (w v : Wait) → wait_in d ≡ Some w → wait_in e ≡ Some v → IsSameWait w v → IsSameHold old new names p q d e
  pause : (a b : Delay) → delay_in d ≡ Some a → delay_in e ≡ Some b → b.due ≡ a.due → IsSameHold old new names p q d e
  start : (s r : Start) → start_in d ≡ Some s → start_in e ≡ Some r → IsSameStart old new names s r → IsSameHold old new names p q d e
  close : (a b : Closing) → closing_in d ≡ Some a → closing_in e ≡ Some b → names.position a.block ≡ Some b.block
      → IsSameHold old new names p q d e

-- the event is a wait with an open delay alternative (9.7.1)
abbrev pub is_timed_wait : Event → Bool
is_timed_wait event = is_some_and (wait_in event) (λ (w : Wait). is_some (tail_due w.tail))

-- the events are of one kind, among which the order counts: both calls, waits with an open delay alternative, delays,
-- starts or closes
abbrev pub is_same_kind : Event → Event → Bool
is_same_kind d e =
    is_some (call_in d) && is_some (call_in e) || is_timed_wait d && is_timed_wait e || is_some (delay_in d) && is_some (delay_in e)
    || is_some (start_in d) && is_some (start_in e) || is_some (closing_in d) && is_some (closing_in e)
