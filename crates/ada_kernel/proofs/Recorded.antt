-- What each kind of event asks of the records and the tables, and leaves of them.
use Rattle.std.proofs.Common.{◌≡◌, ℕ, ◌+◌, ◌<◌, Bool, Some, None, List, [], ◌∷◌, length, refl, sym, arith}
use Rattle.ada_events.specs.declared.event.Event.{Event}
use Rattle.ada_events.specs.declared.outcome.Outcome.{Outcome}
use Rattle.ada_events.specs.Lawful.{IsLawful}
use Rattle.ada_events.specs.Outcomes.{raised_in, released_to}
use Rattle.ada_events.specs.Says.{call_in, held_in, started_in, released_in, meeting_in}
use Rattle.ada_events.specs.Tasks.{task_count}
use Rattle.ada_laws.specs.Suspension.{IsSuspendedAt}
use Rattle.ada_laws.proofs.held.Suspending.{suspended_exists}
use Rattle.ada_records.specs.declared.record.Record.{Record}
use Rattle.ada_records.specs.Noted.{HaveNotedAfter, HaveNotedHold, HaveNotedRelease, waits_at_open_terminate}
use Rattle.ada_records.specs.Followed.{HaveFollowedAfter, HaveFollowedHold}
use Rattle.ada_records.specs.Records.{AreRecords}
use Rattle.ada_tables.specs.Standing.{StandFor}
use Rattle.ada_tables.specs.Tables.{TableState}
use Rattle.ada_records.proofs.recording.EventKinds.{holds_of, releases_of}
use Rattle.ada_step_laws.proofs.changing.Holding.{holder_ran}

-- there is a record of each task that exists, also in the slice of them that is lent
pub recorded_task : (records lent : List Record) (journal : List Event) (task : ℕ) → lent ≡ records → AreRecords records journal → task < task_count journal
    → task < length lent
recorded_task records lent journal task same stand exists = rw same (omega (arith, exists, stand.many))

-- so there is one of a suspended task
pub suspended_recorded : (records lent : List Record) (journal : List Event) (task position : ℕ) → lent ≡ records → AreRecords records journal
    → IsLawful journal → IsSuspendedAt journal task position → task < length lent
suspended_recorded records lent journal task position same stand lawful held =
    recorded_task records lent journal task same stand (suspended_exists journal task position lawful held)

-- and one of whom an event holds up
pub holder_recorded : (event : Event) (before : List Event) (records lent : List Record) (task : ℕ) → held_in event ≡ Some task
    → lent ≡ records → AreRecords records before → IsLawful (event ∷ before) → task < length lent
holder_recorded event before records lent task holds same stand lawful =
    recorded_task records lent before task same stand (holder_ran event before task lawful holds).0

-- the lent records, after an event was noted in them
pub noted_as : (event : Event) (before : List Event) (records lent new : List Record) → HaveNotedAfter before event lent new → lent ≡ records
    → IsLawful (event ∷ before) → AreRecords records before → AreRecords new (event ∷ before)
noted_as event before records lent new noted same lawful stand = noted lawful (rw same stand)

-- likewise a hold
pub noted_hold : (event : Event) (before : List Event) (records lent new : List Record) (task at : ℕ) (quittable : Bool)
    → HaveNotedHold task at quittable lent new → held_in event ≡ Some task → started_in event ≡ [] → waits_at_open_terminate event ≡ quittable
    → at ≡ length before + 1 → lent ≡ records → IsLawful (event ∷ before) → AreRecords records before → AreRecords new (event ∷ before)
noted_hold event before records lent new task at quittable noted holds starts opens position same lawful stand =
    noted event before (holds_of event event task refl holds starts) (sym position) opens lawful (rw same stand)

-- and a release
pub noted_release : (event : Event) (before : List Event) (records lent new : List Record) (task position : ℕ) (outcome : Outcome)
    → HaveNotedRelease task outcome lent new → released_in event ≡ Some position → meeting_in event ≡ None → raised_in event ≡ None
    → released_to before event ≡ outcome → IsSuspendedAt before task position → lent ≡ records → IsLawful (event ∷ before) → AreRecords records before
    → AreRecords new (event ∷ before)
noted_release event before records lent new task position outcome noted releases meets raises becomes held same lawful stand =
    noted event before position (releases_of event event position refl releases meets raises) held becomes lawful (rw same stand)

-- the tables hold each task that exists
pub tabled_task : (tables : TableState) (journal : List Event) (task : ℕ) → StandFor tables journal → task < task_count journal → task < length tables.tasks
tabled_task tables journal task stand exists = omega (arith, exists, stand.many)

pub suspended_tabled : (tables : TableState) (journal : List Event) (task position : ℕ) → StandFor tables journal → IsLawful journal
    → IsSuspendedAt journal task position → task < length tables.tasks
suspended_tabled tables journal task position stand lawful held =
    tabled_task tables journal task stand (suspended_exists journal task position lawful held)

pub holder_tabled : (event : Event) (before : List Event) (tables : TableState) (task : ℕ) → held_in event ≡ Some task
    → StandFor tables before → IsLawful (event ∷ before) → task < length tables.tasks
holder_tabled event before tables task holds stand lawful = tabled_task tables before task stand (holder_ran event before task lawful holds).0

-- the tables, after they followed a hold
pub followed_hold : (event : Event) (before : List Event) (records : List Record) (old new : TableState) (task : ℕ) → HaveFollowedHold task records old new
    → held_in event ≡ Some task → started_in event ≡ [] → call_in event ≡ None → HaveFollowedAfter before event records old new
followed_hold event before records old new task follows holds starts calls =
    follows event before (record { plain = holds_of event event task refl holds starts; calls = calls })
