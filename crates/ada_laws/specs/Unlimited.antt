-- Journals that are lawful where tasks, slots and events have no limit.
use Rattle.std.specs.Prelude.{◌≡◌, not, Bool, true, false, filter, Option, None, List}
use Rattle.ada_events.specs.declared.event.Event.{Event}
use Rattle.ada_events.specs.declared.request.Request.{Request}
use Rattle.ada_events.specs.declared.refusal.Refusal.{Refusal}
use Rattle.ada_events.specs.declared.refusal.Refusal.TheVariants.{TooManyTasks, TooManySlots, JournalFull}
use Rattle.ada_events.specs.Refusals.{Cause, causes, first_cause}
use Rattle.ada_events.specs.Lawful.{IsLawfulBy, IsLawful, IsSettled, After}

-- the cause is a limit of tasks, slots or events
abbrev pub is_limit : Refusal → Bool
is_limit TooManyTasks = true
is_limit TooManySlots = true
is_limit JournalFull = true
is_limit _ = false

-- the causes but for the limits of tasks, slots and events
unfoldable pub causes_but_limits : List Event → Request → List Cause
causes_but_limits journal request = filter (λ (c : Cause). not (is_limit c.name)) (causes journal request)

-- the cause for which a request is refused, where tasks, slots and events have no limit
unfoldable pub refusal_but_limits : List Event → Request → Option Refusal
refusal_but_limits journal request = first_cause (causes_but_limits journal request)

-- the limit of tasks, slots or events that a request would pass
unfoldable pub limit_refusal : List Event → Request → Option Refusal
limit_refusal journal request = first_cause (filter (λ (c : Cause). is_limit c.name) (causes journal request))

-- a journal is lawful where tasks, slots and events have no limit
abbrev pub IsLawfulUnlimited : List Event → Type 0
IsLawfulUnlimited = IsLawfulBy refusal_but_limits

-- a lawful journal is lawful where tasks, slots and events have no limit
abbrev pub LawfulIsUnlimited : Type 0
LawfulIsUnlimited = (journal : List Event) → IsLawful journal → IsLawfulUnlimited journal

-- what a request leads to exists wherever the request isn't refused, where tasks, slots and events have no limit
abbrev pub LeadsOnUnlimited : Type 0
LeadsOnUnlimited =
    (old : List Event) (request : Request) → IsLawfulUnlimited old → IsSettled old → refusal_but_limits old request ≡ None
    → (new : List Event) × After old request new

-- what a request that isn't refused leads to is lawful, where tasks, slots and events have no limit
abbrev pub StaysLawfulUnlimited : Type 0
StaysLawfulUnlimited =
    (old : List Event) (request : Request) (new : List Event) → IsLawfulUnlimited old → IsSettled old
    → refusal_but_limits old request ≡ None → After old request new → IsLawfulUnlimited new
