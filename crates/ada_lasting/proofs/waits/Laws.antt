-- Tasks wait alike.
use Rattle.std.proofs.Common.{◌≡◌, ℕ, Some, List, sym, ap, ◌∙◌}
use Rattle.std.specs.Option.{option_and_then}
use Rattle.ada_events.specs.declared.event.Event.{Event}
use Rattle.ada_events.specs.Lawful.{IsSettled}
use Rattle.ada_laws.specs.Unlimited.{IsLawfulUnlimited}
use Rattle.ada_standing.specs.Renaming.{Renaming, renamed_event}
use Rattle.ada_standing.specs.StandsIn.{StandsIn}
use Rattle.ada_standing.proofs.lawful.Orderly.{lawful_orderly}
use Rattle.ada_standing.proofs.lawful.Laws.{forced_alike}
use Rattle.ada_waiting.specs.Awaited.{waits_for}
use Rattle.ada_lasting.specs.Waiting.{WaitsAlike, WaitedAlike}
use Rattle.ada_lasting.proofs.waits.Suspended.{suspended_alike, places_alike}
use Rattle.ada_lasting.proofs.waits.Reasons.{reasons_alike}
use Rattle.ada_lasting.proofs.waits.Dues.{due_alike, first_due_alike}
use Rattle.ada_lasting.proofs.waits.Standstill.{nobody_runs_alike, verdict_alike}
use Rattle.ada_lasting.proofs.waits.Awaited.{awaited_alike, unnamed_unawaited}
use Rattle.ada_lasting.proofs.waits.First.{first_alike}

settled_alike : (old new : List Event) (names : Renaming) → StandsIn old new names → IsLawfulUnlimited old → IsLawfulUnlimited new → IsSettled old
    → IsSettled new
settled_alike old new names stands lawful also settled =
    sym (forced_alike old new names stands lawful also).renamed ∙ ap (option_and_then (renamed_event names)) settled

waits_alike : (old new : List Event) (names : Renaming) (u v : ℕ) → StandsIn old new names → IsLawfulUnlimited old → IsLawfulUnlimited new
    → names.task u ≡ Some v → WaitsAlike old new names u v
waits_alike old new names u v stands lawful also named =
    let suspended = suspended_alike old new names u v stands lawful also named in
    let awaited : IsSettled old → (t w : ℕ) → names.task t ≡ Some w → waits_for new v w ≡ waits_for old u t =
    λ settled t w other.
    awaited_alike old new names u v t w stands (lawful_orderly old lawful) (lawful_orderly new also) settled
    (settled_alike old new names stands lawful also settled) named other suspended in
    record {
      suspended = places_alike old new names u v suspended;
      reason = reasons_alike old new names u v stands named suspended;
      due = due_alike old new names u v suspended;
      awaited = awaited;
      unnamed = λ settled t exists none. unnamed_unawaited old new names u t stands settled exists none;
      first = λ settled from there divide.
          first_alike old new names u v from there stands settled (settled_alike old new names stands lawful also settled) (awaited settled) divide;
    }

pub waited_alike : WaitedAlike
waited_alike old new names stands lawful also = record {
  tasks = λ u v named. waits_alike old new names u v stands lawful also named;
  first_due = first_due_alike old new names stands lawful also;
  nobody_runs = nobody_runs_alike old new names stands;
  verdict = verdict_alike old new names stands lawful also;
}
