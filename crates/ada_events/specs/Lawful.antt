-- Lawful journals, settled journals, and what a request appends.
use Rattle.std.specs.Prelude.{◌≡◌, ◌⊎◌, Option, Some, None, List, [], ◌∷◌}
use Rattle.ada_events.specs.declared.event.Event.{Event}
use Rattle.ada_events.specs.declared.request.Request.{Request}
use Rattle.ada_events.specs.declared.refusal.Refusal.{Refusal}
use Rattle.ada_events.specs.Forced.{forced}
use Rattle.ada_events.specs.Refusals.{refusal}
use Rattle.ada_events.specs.Asks.{asked_event}

-- nothing is forced
abbrev pub IsSettled : List Event → Type 0
IsSettled journal = forced journal ≡ None

-- here `cause_of` gives the cause for which a request is refused after a journal, or none

-- a request that isn't refused becomes this event
pub record IsAsked (cause_of : List Event → Request → Option Refusal) (journal : List Event) (event : Event) : Type 0 where
  pub settled : IsSettled journal
  pub request : Request
  pub accepted : cause_of journal request ≡ None
  pub becomes : event ≡ asked_event journal request

-- the event may follow the journal: it is the step that the journal forces, or it is asked where nothing
-- is forced
abbrev pub MayFollow : (List Event → Request → Option Refusal) → List Event → Event → Type 0
MayFollow cause_of journal event = (forced journal ≡ Some event) ⊎ IsAsked cause_of journal event

-- each event may follow the journal before it
abbrev pub IsLawfulBy : (List Event → Request → Option Refusal) → List Event → Type 0
IsLawfulBy cause_of [] = Unit {0}
IsLawfulBy cause_of (event ∷ before) = IsLawfulBy cause_of before × MayFollow cause_of before event

-- a journal in which each event may follow by the rules
abbrev pub IsLawful : List Event → Type 0
IsLawful = IsLawfulBy refusal

-- the second journal is the first, or follows from it by steps each of which is what is forced by all
-- before it
pub data Forces (from : List Event) : List Event → Type 0 where
  nothing : Forces from from
  one_more : {journal : List Event} {event : Event} → Forces from journal → forced journal ≡ Some event → Forces from (event ∷ journal)

-- what a request leads to: its event, then the steps that are forced, and then nothing is forced
pub record After (old : List Event) (request : Request) (new : List Event) : Type 0 where
  pub forces : Forces (asked_event old request ∷ old) new
  pub settled : IsSettled new
