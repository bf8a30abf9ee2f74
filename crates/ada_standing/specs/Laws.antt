-- Laws of two journals, lawful where tasks, slots and events have no limit, of which the second stands in for the first.
use Rattle.std.specs.Prelude.{◌≡◌, ◌≤◌, true, None, List, is_none}
use Rattle.std.specs.Option.{option_and_then, option_or}
use Rattle.ada_events.specs.declared.event.Event.{Event}
use Rattle.ada_events.specs.declared.request.Request.{Request}
use Rattle.ada_events.specs.Tasks.{task_count}
use Rattle.ada_events.specs.Forced.{forced}
use Rattle.ada_events.specs.Refusals.{refusal}
use Rattle.ada_events.specs.Lawful.{IsSettled, After}
use Rattle.ada_laws.specs.Unlimited.{IsLawfulUnlimited, refusal_but_limits, limit_refusal}
use Rattle.ada_standing.specs.Renaming.{Renaming, chained, renamed_event}
use Rattle.ada_standing.specs.StandsIn.{StandsIn}
use Rattle.ada_standing.specs.Fewer.{AreEnough}
use Rattle.ada_standing.specs.Asking.{nobody, renamed_request, names_kept, AnswersAlike}
use Rattle.ada_standing.specs.Leading.{LedAlike}

-- the second journal forces what stands for the step that the first one forces, and none where that forces none
pub record ForceAlike (old new : List Event) (names : Renaming) : Type 0 where
  pub renamed : option_and_then (renamed_event names) (forced old) ≡ forced new
  pub settled : is_none (forced new) ≡ is_none (forced old)

-- both journals force alike
abbrev pub ForcedAlike : Type 0
ForcedAlike =
    (old new : List Event) (names : Renaming) → StandsIn old new names → IsLawfulUnlimited old → IsLawfulUnlimited new
    → ForceAlike old new names

-- both journals answer questions alike
abbrev pub AnsweredAlike : Type 0
AnsweredAlike =
    (old new : List Event) (names : Renaming) → StandsIn old new names → IsLawfulUnlimited old → IsLawfulUnlimited new
    → AnswersAlike old new names

-- the second journal refuses what stands for a request as the first one refuses that, where tasks, slots and events
-- have no limit, each task that the request names has a name or doesn't exist, and nobody is no task of the second
abbrev pub RefusedAlike : Type 0
RefusedAlike =
    (old new : List Event) (names : Renaming) (request : Request) → StandsIn old new names → IsLawfulUnlimited old
    → IsLawfulUnlimited new → task_count new ≤ nobody → names_kept names old request ≡ true
    → refusal_but_limits new (renamed_request names request) ≡ refusal_but_limits old request

-- a request is refused for a limit of tasks, slots or events only where it isn't refused for another cause
abbrev pub LimitsRefuseAtLast : Type 0
LimitsRefuseAtLast =
    (journal : List Event) (request : Request) → refusal journal request ≡ option_or (refusal_but_limits journal request) (limit_refusal journal request)

-- what isn't refused isn't refused where tasks, slots and events have no limit
abbrev pub AcceptedWithoutLimits : Type 0
AcceptedWithoutLimits = (journal : List Event) (request : Request) → refusal journal request ≡ None → refusal_but_limits journal request ≡ None

-- a request that neither journal refuses, where tasks, slots and events have no limit, leads both, where nothing is
-- forced, to journals that grew alike, provided that each task that the request names has a name or doesn't exist
abbrev pub LeadsAlike : Type 0
LeadsAlike =
    (old new : List Event) (names : Renaming) (request : Request) (old_after new_after : List Event) → StandsIn old new names
    → IsLawfulUnlimited old → IsLawfulUnlimited new → IsSettled old → names_kept names old request ≡ true → refusal_but_limits old request ≡ None
    → refusal_but_limits new (renamed_request names request) ≡ None → After old request old_after
    → After new (renamed_request names request) new_after → LedAlike old new names old_after new_after

-- what stands in for a journal that stands in for a first one stands in for that too: it has what stands for what
-- stands for each
abbrev pub StandInsChain : Type 0
StandInsChain =
    (first second third : List Event) (names more : Renaming) → StandsIn first second names → StandsIn second third more
    → IsLawfulUnlimited first → StandsIn first third (chained names more)

-- the second journal stands in for the first, where nothing is forced in that, with fewer names too, if they are enough
abbrev pub FewerNamesStandIn : Type 0
FewerNamesStandIn =
    (old new : List Event) (names fewer : Renaming) → StandsIn old new names → AreEnough old names fewer → IsLawfulUnlimited old
    → IsSettled old → StandsIn old new fewer
