-- What the events change in queues and nests that hold a task up or let it go on and do no more, and whose phase.
use Rattle.std.proofs.Common.{◌≡◌, ℕ, ℤ, Some, None, List, ◌∷◌, refl, ap}
use Rattle.std.proofs.lemmas.Option.{none-some}
use Rattle.ada_events.specs.declared.event.Event.{Event}
use Rattle.ada_events.specs.declared.event.Event.TheVariants as kind
use Rattle.ada_events.specs.declared.names.TaskNo.{TaskNo}
use Rattle.ada_events.specs.Lawful.{IsLawful}
use Rattle.ada_events.specs.Says.{creation_in, opening_in, call_in, meeting_in, released_in, completed_in, held_in, started_in, left_in, gone_in, quit_in}
use Rattle.ada_laws.specs.Suspension.{IsSuspendedAt}
use Rattle.ada_records.proofs.turning.Renesting.NestChange.{Nothing as SameNests}
use Rattle.ada_records.proofs.turning.Requeuing.QueueChange.{Nothing as SameQueues}
use Rattle.ada_records.specs.TableEvents.{IsMereHold, passing_in}
use Rattle.ada_records.proofs.following.Known.{AreKnown}
use Rattle.ada_records.proofs.turning.NestTurns.{nests_kept, nests_passed}
use Rattle.ada_records.proofs.turning.QueueTurns.{queues_kept, queues_passed}
use Rattle.ada_records.proofs.phase_changes.TouchedTasks.{held_touches, released_touches, nobody_touched}
use Rattle.ada_step_laws.proofs.changing.Holding.{hold_only}

-- what holds a task up opens no block
hold_opens_none : (e : Event) (task : ℕ) → held_in e ≡ Some task → opening_in e ≡ None
unfolding held_in opening_in
hold_opens_none (kind.Opened by under) task holds = absurd (none-some task holds)
hold_opens_none _ task holds = refl

pub hold_known : (event : Event) (before : List Event) (by : TaskNo) → IsMereHold event by.0 → IsLawful (event ∷ before)
    → AreKnown event before SameQueues SameNests (Some by)
hold_known event before by holds lawful =
    let only = hold_only event by.0 holds.plain.holds in
    record {
      makes = only.quiet.makes;
      queues = queues_kept event event before refl holds.calls only.releases only.meets only.quiet.completes lawful;
      nests = nests_kept event event before refl (hold_opens_none event by.0 holds.plain.holds) only.meets only.releases lawful;
      touches = held_touches event event before by refl holds.plain.holds holds.plain.starts lawful;
    }

-- what an event says that ends a wait, a delay or a start without a rendezvous
record Passes (event : Event) (position : ℕ) : Type 0 where
  makes : creation_in event ≡ None
  calls : call_in event ≡ None
  meets : meeting_in event ≡ None
  leaves : left_in event ≡ None
  releases : released_in event ≡ Some position

passes : (e : Event) (position : ℕ) → passing_in e ≡ Some position → Passes e position
unfolding creation_in call_in meeting_in left_in released_in
passes (kind.Passed wait way) position is = record { makes = refl; calls = refl; meets = refl; leaves = refl; releases = is }
passes (kind.Woken pause) position is = record { makes = refl; calls = refl; meets = refl; leaves = refl; releases = is }
passes (kind.Activated start ok) position is = record { makes = refl; calls = refl; meets = refl; leaves = refl; releases = is }
passes _ position is = absurd (none-some position is)

pub release_known : (event : Event) (before : List Event) (position : ℕ) (task : TaskNo) → passing_in event ≡ Some position
    → IsSuspendedAt before task.0 position → IsLawful (event ∷ before) → AreKnown event before SameQueues SameNests (Some task)
release_known event before position task is held lawful =
    let says = passes event position is in
    record {
      makes = says.makes;
      queues = queues_passed event event before position refl is says.releases says.meets says.calls lawful;
      nests = nests_passed event event before position refl is says.releases says.leaves says.meets lawful;
      touches = released_touches event event before task position refl says.releases lawful held;
    }

-- a tick changes nothing
pub tick_known : (event : Event) (before : List Event) (now : ℤ) → event ≡ kind.Ticked now → IsLawful (event ∷ before)
    → AreKnown event before SameQueues SameNests None
unfolding creation_in opening_in call_in meeting_in released_in completed_in held_in started_in gone_in quit_in
tick_known event before now is lawful = record {
  makes = ap creation_in is;
  queues = queues_kept event _ before is refl refl refl refl lawful;
  nests = nests_kept event _ before is refl refl refl lawful;
  touches = nobody_touched event _ before is refl refl refl refl refl refl lawful;
}
