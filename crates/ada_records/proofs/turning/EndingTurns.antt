-- What a completion, a halt, an abort, the failure of a call and a termination change in queues and nests, and whose phase.
use Rattle.std.proofs.Common.{◌≡◌, ℕ, Bool, Some, None, List, ◌∷◌, refl, ap, inl, inr}
use Rattle.std.specs.Option.{option_map_or}
use Rattle.ada_events.specs.declared.event.Event.{Event}
use Rattle.ada_events.specs.declared.event.Event.TheVariants.{Aborted, Completed, Elaborated, Halted, Failed, Gone}
use Rattle.ada_events.specs.declared.names.TaskNo.{TaskNo}
use Rattle.ada_events.specs.Lawful.{IsLawful}
use Rattle.ada_events.specs.Says.{Call, creation_in, opening_in, call_in, call_at, meeting_in, released_in, completed_in, held_in, started_in, gone_in, quit_in}
use Rattle.ada_laws.specs.Suspension.{IsSuspendedAt}
use Rattle.ada_records.proofs.recording.TaskEnds.{completion_exists}
use Rattle.ada_records.proofs.turning.Renesting.NestChange.{Nothing as SameNests, EndsRendezvous}
use Rattle.ada_records.proofs.turning.Requeuing.QueueChange.{Nothing as SameQueues, Leaves}
use Rattle.ada_records.proofs.following.Known.{AreKnown}
use Rattle.ada_records.proofs.turning.NestTurns.{nests_kept, nests_elaborated, nests_of_failure, callee_of}
use Rattle.ada_records.proofs.turning.QueueTurns.{queues_kept, queues_completed, queues_elaborated, queues_ended, queues_halted}
use Rattle.ada_records.proofs.phase_changes.TouchedTasks.{completed_touches, elaborated_touches, released_touches, gone_touches, nobody_touched}

module _ (event : Event) (before : List Event) (task : TaskNo) where
  -- the halt of a task takes its call out of the queue, and completes it
  pub halt_known : event ≡ Halted task → IsLawful (event ∷ before) → AreKnown event before (Leaves task) SameNests (Some task)
  unfolding creation_in opening_in call_in meeting_in released_in completed_in
  halt_known is lawful = record {
    makes = ap creation_in is;
    queues = queues_halted event before task is lawful;
    nests = nests_kept event _ before is refl refl refl lawful;
    touches = completed_touches event _ before task is refl (completion_exists event before task lawful (inr is)) lawful;
  }

  -- a termination changes no queue and no nest
  pub termination_known : event ≡ Gone task → IsLawful (event ∷ before) → AreKnown event before SameQueues SameNests (Some task)
  unfolding creation_in opening_in call_in meeting_in released_in completed_in
  termination_known is lawful = record {
    makes = ap creation_in is;
    queues = queues_kept event _ before is refl refl refl refl lawful;
    nests = nests_kept event _ before is refl refl refl lawful;
    touches = gone_touches event before task is lawful;
  }

-- the failure of a call takes it out of its queue and out of the nest of the task called, and lets its caller go on
pub failure_known : (event : Event) (before : List Event) (call : ℕ) (caller callee : TaskNo) → event ≡ Failed call
    → IsSuspendedAt before caller.0 call → callee.0 ≡ option_map_or (λ (c : Call). c.callee) (call_at before call) 0 → IsLawful (event ∷ before)
    → AreKnown event before (Leaves caller) (EndsRendezvous callee call) (Some caller)
unfolding creation_in call_in meeting_in released_in
failure_known event before call caller callee is held called lawful = record {
  makes = ap creation_in is;
  queues = queues_ended event _ before caller call is refl refl refl held lawful;
  nests = nests_of_failure event before callee call is (callee_of before call callee.0 called) lawful;
  touches = released_touches event _ before caller call is refl lawful held;
}

-- a task completes by itself, which takes no call of its own out of a queue
pub completion_known : (event : Event) (before : List Event) (by : TaskNo) → event ≡ Completed by → IsLawful (event ∷ before)
    → AreKnown event before SameQueues SameNests (Some by)
unfolding creation_in opening_in call_in meeting_in released_in completed_in
completion_known event before by is lawful = record {
  makes = ap creation_in is;
  queues = queues_completed event before by is lawful;
  nests = nests_kept event _ before is refl refl refl lawful;
  touches = completed_touches event _ before by is refl (completion_exists event before by lawful (inl is)) lawful;
}

-- the end of a task's own activation completes it, if it failed
pub elaboration_known : (event : Event) (before : List Event) (by : TaskNo) (ok : Bool) → event ≡ Elaborated by ok
    → IsLawful (event ∷ before) → AreKnown event before SameQueues SameNests (Some by)
unfolding creation_in call_in
elaboration_known event before by ok is lawful = record {
  makes = ap creation_in is;
  queues = queues_elaborated event before by ok is lawful;
  nests = nests_elaborated event before by ok is lawful;
  touches = elaborated_touches event before by ok is lawful;
}

-- an abort changes nothing by itself
pub abort_known : (event : Event) (before : List Event) (by : TaskNo) (tasks : List TaskNo) → event ≡ Aborted by tasks
    → IsLawful (event ∷ before) → AreKnown event before SameQueues SameNests None
unfolding creation_in opening_in call_in meeting_in released_in completed_in held_in started_in gone_in quit_in
abort_known event before by tasks is lawful = record {
  makes = ap creation_in is;
  queues = queues_kept event _ before is refl refl refl refl lawful;
  nests = nests_kept event _ before is refl refl refl lawful;
  touches = nobody_touched event _ before is refl refl refl refl refl refl lawful;
}
