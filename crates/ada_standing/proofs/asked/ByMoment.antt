-- The causes that have to do with the main program and the moment apply alike.
use Rattle.std.proofs.Common.{◌≡◌, List, refl}
use Rattle.ada_events.specs.declared.event.Event.{Event}
use Rattle.ada_events.specs.declared.request.Request.{Request}
use Rattle.ada_events.specs.declared.request.Request.TheVariants.{Call, Wait, Delay, Abort, Tick}
use Rattle.ada_events.specs.declared.request.Tail.TheVariants.{Nothing, Otherwise, Delays, Terminate}
use Rattle.ada_events.specs.declared.names.Patience.TheVariants.{Timed}
use Rattle.ada_events.specs.Asks.{named_tasks}
use Rattle.ada_events.specs.Limits.{moves_back, is_too_late}
use Rattle.ada_events.specs.Refusals.{aborts_main}
use Rattle.ada_standing.specs.Renaming.{Renaming}
use Rattle.ada_standing.specs.StandsIn.{StandsIn}
use Rattle.ada_standing.specs.Asking.{renamed_request}
use Rattle.ada_standing.proofs.asked.Naming.{IsAsking, lists_alike}

pub aborts_main_alike : (old new : List Event) (names : Renaming) (request : Request) → StandsIn old new names → IsAsking old names request
    → aborts_main (renamed_request names request) ≡ aborts_main request
unfolding aborts_main renamed_request named_tasks
aborts_main_alike old new names (Abort by tasks) stands asking = lists_alike old new names 0 0 tasks stands stands.tasks.main asking.tasks
aborts_main_alike old new names _ stands asking = refl

pub moves_back_alike : (old new : List Event) (names : Renaming) (request : Request) → StandsIn old new names
    → moves_back new (renamed_request names request) ≡ moves_back old request
unfolding moves_back renamed_request
moves_back_alike old new names (Tick now) stands = rw stands.moments refl
moves_back_alike old new names _ stands = refl

pub too_late_alike : (old new : List Event) (names : Renaming) (request : Request) → StandsIn old new names
    → is_too_late new (renamed_request names request) ≡ is_too_late old request
unfolding is_too_late renamed_request
too_late_alike old new names (Tick now) stands = refl
too_late_alike old new names (Delay by duration) stands = rw stands.moments refl
too_late_alike old new names (Call by callee entry (Timed duration)) stands = rw stands.moments refl
too_late_alike old new names (Call by callee entry _) stands = refl
too_late_alike old new names (Wait by choices (Delays pauses) pick) stands = rw stands.moments refl
too_late_alike old new names (Wait by choices (Nothing) pick) stands = refl
too_late_alike old new names (Wait by choices (Otherwise) pick) stands = refl
too_late_alike old new names (Wait by choices (Terminate guard) pick) stands = refl
too_late_alike old new names _ stands = refl
