-- Records that stand for a journal: each field is what the definitions give.
use Rattle.std.specs.Prelude.{◌≡◌, ◌⊎◌, ℕ, ◌<◌, Bool, true, false, not, ◌||◌, ◌&&◌, List, length, take}
use Rattle.ada_events.specs.declared.event.Event.{Event}
use Rattle.ada_events.specs.declared.event.Event.TheVariants.{Completed, Halted}
use Rattle.ada_events.specs.declared.names.TaskNo.{TaskNo}
use Rattle.ada_events.specs.declared.outcome.Outcome.TheVariants.{Held}
use Rattle.ada_events.specs.Phases.{lists_task}
use Rattle.ada_records.specs.declared.record.Suspension.{Suspension}
use Rattle.ada_records.specs.declared.record.Record.{Record}
use Rattle.ada_records.specs.Records.{freed, record_at}

-- what is kept of the latest suspension of a task that an event at a position holds up
abbrev pub held : ℕ → Bool → Suspension
held at quittable = record { at = at; joined = false; quittable = quittable; outcome = Held }

-- a record after its task ended its activation (9.3)
abbrev pub elaborated_record : Bool → Record → Record
elaborated_record true r = record r { stage = record r.stage { elaborated = true } }
elaborated_record false r = record r {
  suspension = freed r.suspension.outcome;
  stage = record r.stage { elaborated = true; failed = true; completed = true };
}

-- a record after all that depend on a master terminated together
abbrev pub quit_record : Bool → Record → Record
quit_record true r = record r { suspension = freed r.suspension.outcome; stage = record r.stage { terminated = true } }
quit_record false r = r

-- a record after an abort
abbrev pub abort_record : Bool → Record → Record
abort_record hit r = record r {
  stage = record r.stage {
    abnormal = hit && not r.stage.terminated || r.stage.abnormal;
  };
}

-- a record after a start, by whether that names the task (9.3)
abbrev pub start_record : Bool → Record → Record
start_record named r = record r {
  stage = record r.stage {
    named = named || r.stage.named;
    started = named && not (r.stage.completed || r.stage.terminated) || r.stage.started;
  };
}

-- a record of a task that terminates with all others that depend on a master, unless it was terminated (9.4)
abbrev pub quit_live_record : Bool → Record → Record
quit_live_record true r = quit_record (not r.stage.terminated) r
quit_live_record false r = r

-- the records after the change of the first so many tasks of a list, by whether that names the task
pub record HaveChanged (change : Bool → Record → Record) (first now : List Record) (tasks : List TaskNo) (many : ℕ) : Type 0 where
  pub same : length now ≡ length first
  pub each : (task : ℕ) → task < length first → record_at now task ≡ change (lists_task task (take many tasks)) (record_at first task)

-- the task completes: by itself, or it is halted (9.4, 9.10)
abbrev pub IsCompletion : Event → TaskNo → Type 0
IsCompletion event task = (event ≡ Completed task) ⊎ (event ≡ Halted task)
