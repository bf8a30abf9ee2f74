-- Of which journals a law holds, and the six laws as one record of a journal.
use Rattle.std.specs.Prelude.{List}
use Rattle.ada_events.specs.declared.event.Event.{Event}
use Rattle.ada_events.specs.Lawful.{IsLawful, IsSettled}
use Rattle.ada_laws.specs.Calls.{OneOpenCallEach, OpenCallsSuspend, CallsThatSuspendAreOpen, OpenCallsAreJoinedOrQueued, QueuesRise, FrontsAreMet}
use Rattle.ada_laws.specs.Calls.{OneMeetingForAJoinedCall, NoOpenCallToAFinishedTask, NoAcceptorWaitsAtAQueuedChoice}
use Rattle.ada_laws.specs.Dependents.{ATerminatedBodyHasNoLiveDependent}

-- it holds of every journal
abbrev pub OfEvery : (List Event → Type 0) → Type 0
OfEvery Law = (journal : List Event) → Law journal

-- it holds of every lawful journal
abbrev pub OfLawful : (List Event → Type 0) → Type 0
OfLawful Law = (journal : List Event) → IsLawful journal → Law journal

-- it holds of every settled journal
abbrev pub OfSettled : (List Event → Type 0) → Type 0
OfSettled Law = (journal : List Event) → IsSettled journal → Law journal

-- a task has one open call at most, exactly where it is suspended at that call, and the call is joined or
-- stands in one queue
pub record HasOneOpenCallEach (journal : List Event) : Type 0 where
  pub one : OneOpenCallEach journal
  pub suspends : OpenCallsSuspend journal
  pub open_at : CallsThatSuspendAreOpen journal
  pub joined_or_queued : OpenCallsAreJoinedOrQueued journal

-- calls queue in the order of their arrival, and each rendezvous began with the front of a queue
pub record HasRisingQueues (journal : List Event) : Type 0 where
  pub rise : QueuesRise journal
  pub met : FrontsAreMet journal

-- the journal keeps the six laws
pub record KeepsTheLaws (journal : List Event) : Type 0 where
  pub one_open_call_each : HasOneOpenCallEach journal
  pub queues_rise_and_fronts_are_met : HasRisingQueues journal
  pub one_meeting_for_a_joined_call : OneMeetingForAJoinedCall journal
  pub no_open_call_to_a_finished_task : NoOpenCallToAFinishedTask journal
  pub a_terminated_body_has_no_live_dependent : ATerminatedBodyHasNoLiveDependent journal
  pub no_acceptor_waits_at_a_queued_choice : NoAcceptorWaitsAtAQueuedChoice journal

-- every lawful and settled journal keeps them
abbrev pub JournalsKeepTheLaws : Type 0
JournalsKeepTheLaws = (journal : List Event) → IsLawful journal → IsSettled journal → KeepsTheLaws journal
