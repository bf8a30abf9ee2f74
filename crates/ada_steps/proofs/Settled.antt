-- Appending what a request leads to, in a journal that has room for it.
use Rattle.std.proofs.Common.{◌≡◌, ◌+◌, ◌<◌, ◌≤◌, Some, List, ◌∷◌, length, sym, subst, arith, inl}
use Rattle.ada_events.specs.declared.event.Event.{Event}
use Rattle.ada_events.specs.declared.request.Request.{Request}
use Rattle.ada_events.specs.Journals.{Kept}
use Rattle.ada_events.specs.Forced.{forced}
use Rattle.ada_events.specs.Asks.{asked_event}
use Rattle.ada_events.specs.Lawful.{IsLawful, IsSettled, Forces, nothing, one_more}
use Rattle.ada_laws.specs.Work.{work_left}
use Rattle.ada_laws.proofs.asking.LimitLaws.{steps_lessen_the_work, work_left-most, asked_lawful, events_are_few}
use Rattle.ada_steps.specs.Beginning.{HasBegun}
use Rattle.ada_steps.specs.internal.Settling.{IsSettling}

pub room_left : (from : List Event) (journal : Kept) (step : Event) → IsSettling from journal → forced journal.events ≡ Some step → 0 < journal.spare
room_left from journal step settling found =
    omega (arith, steps_lessen_the_work journal.events step settling.lawful found, settling.room)

pub less_work : (old new : Kept) (step : Event) → IsLawful old.events → forced old.events ≡ Some step → new.events ≡ step ∷ old.events
    → work_left new.events < work_left old.events
less_work old new step lawful found appended = rw appended (steps_lessen_the_work old.events step lawful found)

pub settling_more : (from : List Event) (old new : Kept) (step : Event) → IsSettling from old → forced old.events ≡ Some step → new.events ≡ step ∷ old.events
    → old.spare ≤ new.spare + 1 → IsSettling from new
settling_more from old new step settling found appended spare = record {
  forces = subst (λ j. Forces from j) (sym appended) (one_more settling.forces found);
  lawful = subst (λ j. IsLawful j) (sym appended) (settling.lawful, inl found);
  room = omega (arith, less_work old new step settling.lawful found appended, settling.room);
}

pub settling_begins : (journal : Kept) → IsLawful journal.events → work_left journal.events ≤ journal.spare → IsSettling journal.events journal
settling_begins journal lawful room = record { forces = nothing; lawful = lawful; room = room }

pub has_places : (journal : List Event) → IsLawful journal → length journal + 1024 < 4294967296
has_places journal lawful = omega (arith, events_are_few journal lawful)

-- with the event of a request appended, the journal is lawful and the work left finds room
pub begun_room : (old after : Kept) (request : Request) → IsLawful old.events → IsSettled old.events → HasBegun old request after
    → IsLawful after.events × (work_left after.events ≤ after.spare)
begun_room old after request lawful settled begun =
    let asked : IsLawful (asked_event old.events request ∷ old.events) = asked_lawful old.events request lawful settled begun.unrefused in
    let after_lawful : IsLawful after.events = subst (λ j. IsLawful j) (sym begun.appended) asked in
    (after_lawful, omega (arith, work_left-most after.events after_lawful, begun.room))
