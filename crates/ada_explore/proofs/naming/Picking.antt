-- A request with another pick asks for the same but for that.
use Rattle.std.proofs.Common.{◌≡◌, ℕ, Option, List, refl}
use Rattle.ada_events.specs.declared.event.Event.{Event}
use Rattle.ada_events.specs.declared.request.Request.{Request}
use Rattle.ada_events.specs.declared.request.Request.TheVariants.{Wait}
use Rattle.ada_events.specs.Asks.{asker, named_tasks}
use Rattle.ada_standing.specs.Renaming.{Renaming}
use Rattle.ada_standing.specs.Asking.{renamed_request, names_kept}
use Rattle.ada_explore.specs.Picks.{with_pick}

-- under other names it has that pick
pub picked_renamed : (names : Renaming) (pick : Option ℕ) (request : Request)
    → with_pick pick (renamed_request names request) ≡ renamed_request names (with_pick pick request)
unfolding renamed_request
picked_renamed names pick (Wait by choices tail written) = refl
picked_renamed names pick _ = refl

-- it names the same tasks
pub picked_kept : (names : Renaming) (journal : List Event) (pick : Option ℕ) (request : Request)
    → names_kept names journal (with_pick pick request) ≡ names_kept names journal request
unfolding names_kept asker named_tasks
picked_kept names journal pick (Wait by choices tail written) = refl
picked_kept names journal pick _ = refl
