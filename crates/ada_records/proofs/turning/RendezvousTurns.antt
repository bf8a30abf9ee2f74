-- What the events of a rendezvous change in queues and nests, and whose phase.
use Rattle.std.proofs.Common.{◌≡◌, ℕ, Bool, Some, List, ◌∷◌, refl, ap}
use Rattle.ada_events.specs.declared.event.Event.{Event}
use Rattle.ada_events.specs.declared.event.Event.TheVariants as kind
use Rattle.ada_events.specs.declared.names.Entry.{Entry}
use Rattle.ada_events.specs.declared.names.Member.TheVariants.{Rendezvous}
use Rattle.ada_events.specs.declared.names.TaskNo.{TaskNo}
use Rattle.ada_events.specs.Lawful.{IsLawful}
use Rattle.ada_events.specs.Says.{Call, creation_in, opening_in, call_in, call_at, meeting_in, released_in, held_in, started_in}
use Rattle.ada_laws.specs.Suspension.{IsSuspendedAt}
use Rattle.ada_laws.proofs.within.Members.{nest_met, ended_within}
use Rattle.ada_records.proofs.turning.Renesting.NestChange.{Nothing as SameNests, Enters, EndsRendezvous}
use Rattle.ada_records.proofs.turning.Requeuing.QueueChange.{Nothing as SameQueues, Joins, Leaves}
use Rattle.ada_records.specs.TableEvents.{MakesCall}
use Rattle.ada_records.specs.internal.Ending.{EndsCall}
use Rattle.ada_records.proofs.following.Known.{AreKnown}
use Rattle.ada_records.proofs.turning.NestTurns.{nests_kept, nests_cancelled, nests_of_end, nests_met, accepted_by_callee}
use Rattle.ada_records.proofs.turning.QueueTurns.{queues_called, queues_ended, queues_served, queues_met}
use Rattle.ada_records.proofs.phase_changes.TouchedTasks.{held_touches, released_touches}

-- a call of an entry comes last there, and holds its task up
pub call_known : (event : Event) (before : List Event) (by callee : TaskNo) (entry : Entry) → MakesCall event by callee entry
    → IsLawful (event ∷ before) → AreKnown event before (Joins by callee entry) SameNests (Some by)
unfolding creation_in opening_in call_in meeting_in released_in held_in started_in
call_known event before by callee entry calls lawful = record {
  makes = ap creation_in calls.is;
  queues = queues_called event before _ by callee entry (ap call_in calls.is) refl refl refl lawful;
  nests = nests_kept event _ before calls.is refl refl refl lawful;
  touches = held_touches event _ before by calls.is refl refl lawful;
}

-- who ends a rendezvous is the task called
ender_is_callee : (event : Event) (before : List Event) (by : TaskNo) (p : ℕ) (raised : Bool) → IsLawful (event ∷ before) → event ≡ kind.Ended by p raised
    → (c : Call) → call_at before p ≡ Some c → by.0 ≡ c.callee
ender_is_callee event before by p raised lawful is c calls =
    accepted_by_callee before by.0 p c lawful.0 calls (ended_within event before by p raised lawful.1 is)

-- the end of a rendezvous takes it out of the nest of the task that ends it, and lets its caller go on
pub end_known : (event : Event) (before : List Event) (by caller : TaskNo) (call : ℕ) → EndsCall event by call
    → IsSuspendedAt before caller.0 call → IsLawful (event ∷ before) → AreKnown event before SameQueues (EndsRendezvous by call) (Some caller)
unfolding creation_in call_in meeting_in released_in
end_known event before by caller call ends held lawful = record {
  makes = ap creation_in ends.is;
  queues = queues_served event _ before call ends.is refl refl refl
      (nest_met before by.0 call (ended_within event before by call ends.raised lawful.1 ends.is));
  nests = nests_of_end event before by by call ends.raised ends.is (ender_is_callee event before by call ends.raised lawful ends.is) lawful;
  touches = released_touches event _ before caller call ends.is refl lawful held;
}

-- the beginning of a rendezvous takes its call out of the queue, puts it into the nest of the acceptor, and lets that go on
pub meeting_known : (event : Event) (before : List Event) (call wait : ℕ) (caller acceptor : TaskNo) → event ≡ kind.Met call wait
    → IsSuspendedAt before caller.0 call → IsSuspendedAt before acceptor.0 wait → IsLawful (event ∷ before)
    → AreKnown event before (Leaves caller) (Enters acceptor (Rendezvous call)) (Some acceptor)
unfolding creation_in call_in released_in
meeting_known event before call wait caller acceptor is calls waits lawful = record {
  makes = ap creation_in is;
  queues = queues_met event before caller call wait is calls lawful;
  nests = nests_met event before acceptor call wait is waits lawful;
  touches = released_touches event _ before acceptor wait is refl lawful waits;
}

-- the cancellation of a call takes it out of its queue, and lets its caller go on
pub cancellation_known : (event : Event) (before : List Event) (call : ℕ) (caller : TaskNo) → event ≡ kind.Cancelled call
    → IsSuspendedAt before caller.0 call → IsLawful (event ∷ before) → AreKnown event before (Leaves caller) SameNests (Some caller)
unfolding creation_in call_in meeting_in released_in
cancellation_known event before call caller is held lawful = record {
  makes = ap creation_in is;
  queues = queues_ended event _ before caller call is refl refl refl held lawful;
  nests = nests_cancelled event before call is lawful;
  touches = released_touches event _ before caller call is refl lawful held;
}
