-- What a request leads to. Journals are read newest event first, so the old journal is the tail of the
-- new one.
use Rattle.std.specs.Prelude.{◌≡◌, None, List, ◌∷◌, ◌++◌}
use Rattle.ada_events.specs.declared.event.Event.{Event}
use Rattle.ada_events.specs.declared.request.Request.{Request}
use Rattle.ada_events.specs.Asks.{asked_event}
use Rattle.ada_events.specs.Refusals.{refusal}
use Rattle.ada_events.specs.Lawful.{IsLawful, IsSettled, After}

-- a request leads to one journal at most
abbrev pub LeadsToOneJournal : Type 0
LeadsToOneJournal = (old : List Event) (request : Request) (a b : List Event) → After old request a → After old request b → a ≡ b

-- what a request leads to is the old journal, then the event that the request becomes, then some steps
abbrev pub KeepsTheOldJournal : Type 0
KeepsTheOldJournal =
    (old : List Event) (request : Request) (new : List Event) → After old request new
    → (steps : List Event) × (new ≡ steps ++ (asked_event old request ∷ old))

-- what a request that isn't refused leads to, from a lawful and settled journal, is lawful
abbrev pub StaysLawful : Type 0
StaysLawful =
    (old : List Event) (request : Request) (new : List Event) → IsLawful old → IsSettled old → refusal old request ≡ None
    → After old request new → IsLawful new
