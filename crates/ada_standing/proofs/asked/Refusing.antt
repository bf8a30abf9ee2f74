-- Requests are refused alike but for the limits of tasks, slots and events.
use Rattle.std.proofs.Common.{◌≡◌, ◌≤◌, Bool, true, false, List, ◌∷◌, drop, refl}
use Rattle.ada_events.specs.declared.event.Event.{Event}
use Rattle.ada_events.specs.declared.request.Request.{Request}
use Rattle.ada_events.specs.declared.refusal.Refusal.{Refusal}
use Rattle.ada_events.specs.declared.refusal.Refusal.TheVariants.{UnknownTask, NotRunning}
use Rattle.ada_events.specs.Tasks.{task_count}
use Rattle.ada_events.specs.Refusals.{Cause, cause, causes, first_cause}
use Rattle.ada_events.specs.Refusals.{names_unknown_task, asker_not_running}
use Rattle.ada_laws.specs.Unlimited.{causes_but_limits, refusal_but_limits}
use Rattle.ada_standing.specs.Renaming.{Renaming}
use Rattle.ada_standing.specs.StandsIn.{StandsIn}
use Rattle.ada_standing.specs.Asking.{nobody, renamed_request, names_kept}
use Rattle.ada_standing.specs.Laws.{RefusedAlike}
use Rattle.ada_standing.proofs.alike.Orderly.{IsOrderly}
use Rattle.ada_standing.proofs.lawful.Orderly.{lawful_orderly}
use Rattle.ada_standing.proofs.asked.Naming.{IsAsking, is_asking, unknown_alike, not_running_alike}
use Rattle.ada_standing.proofs.asked.ByName.{during_alike, not_activating_alike, not_your_master_alike, empty_list_alike}
use Rattle.ada_standing.proofs.asked.ByEntry.{not_your_task_alike, no_accept_alike, no_family_alike, constraint_alike}
use Rattle.ada_standing.proofs.asked.ByNest.{same_family_alike, terminate_alike, not_in_accept_alike, no_block_alike, still_nested_alike, too_deep_alike}
use Rattle.ada_standing.proofs.asked.ByMoment.{aborts_main_alike, moves_back_alike, too_late_alike}

-- the first causes are the same where the foremost ones apply alike, and the others are considered only where these don't apply
first_same : (a b : Bool) (name : Refusal) (xs ys : List Cause) → a ≡ b → (b ≡ false → first_cause xs ≡ first_cause ys)
    → first_cause (cause a name ∷ xs) ≡ first_cause (cause b name ∷ ys)
unfolding first_cause
first_same a true name xs ys same others = rw same refl
first_same a false name xs ys same others = rw same (others refl)

-- the causes after the first two apply alike
others_alike : (old new : List Event) (names : Renaming) (request : Request) → StandsIn old new names → IsOrderly old → IsOrderly new
    → IsAsking old names request → first_cause (drop 2 (causes_but_limits new (renamed_request names request)))
    ≡ first_cause (drop 2 (causes_but_limits old request))
unfolding causes_but_limits causes
others_alike old new names request stands orderly also asking =
    rw (
      during_alike old new names request stands asking,
      not_activating_alike old new names request stands asking,
      not_your_master_alike old new names request stands orderly also asking,
      empty_list_alike names request,
      not_your_task_alike old new names request stands asking,
      no_accept_alike names request,
      no_family_alike old new names request stands asking,
      constraint_alike old new names request stands asking,
      same_family_alike old new names request stands orderly asking,
      terminate_alike old new names request stands asking,
      not_in_accept_alike old new names request stands asking,
      no_block_alike old new names request stands asking,
      still_nested_alike old new names request stands asking,
      aborts_main_alike old new names request stands asking,
      moves_back_alike old new names request stands,
      too_late_alike old new names request stands,
      too_deep_alike old new names request stands asking,
    ) refl

-- the causes are the same, of journals that may have more tasks than the limit
pub causes_alike : (old new : List Event) (names : Renaming) (request : Request) → StandsIn old new names → IsOrderly old → IsOrderly new
    → task_count new ≤ nobody → names_kept names old request ≡ true
    → refusal_but_limits new (renamed_request names request) ≡ refusal_but_limits old request
unfolding refusal_but_limits causes_but_limits causes
causes_alike old new names request stands orderly also few kept =
    first_same (names_unknown_task new (renamed_request names request)) (names_unknown_task old request) UnknownTask
    (drop 1 (causes_but_limits new (renamed_request names request))) (drop 1 (causes_but_limits old request))
    (unknown_alike old new names request stands few kept)
    (λ known.
    first_same (asker_not_running new (renamed_request names request)) (asker_not_running old request) NotRunning
    (drop 2 (causes_but_limits new (renamed_request names request))) (drop 2 (causes_but_limits old request))
    (not_running_alike old new names request stands kept known)
    (λ runs. others_alike old new names request stands orderly also (is_asking old names request kept known runs)))

pub refused_alike : RefusedAlike
refused_alike old new names request stands lawful lawful_too few kept =
    causes_alike old new names request stands (lawful_orderly old lawful) (lawful_orderly new lawful_too) few kept
