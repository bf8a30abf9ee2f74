-- Groups.
use Rattle.std.proofs.Common.{◌≡◌, None, List, [], ◌∷◌, refl, sym, ◌∙◌, subst, inl, inr}
use Rattle.std.proofs.lemmas.Option.{none-some}
use Rattle.ada_events.specs.declared.event.Event.{Event}
use Rattle.ada_events.specs.Search.{any_event, first_given, gathered, first_below, all_below}
use Rattle.ada_events.specs.Tasks.{task_count, creation_of}
use Rattle.ada_events.specs.Masters.{reaches, depends_on}
use Rattle.ada_events.specs.Phases.{has_start, is_completed, is_terminated, has_ended, is_abnormal}
use Rattle.ada_events.specs.Forced.{is_to_halt, halted, failed, met, cancelled, passed, woken, activated, is_to_go, gone, is_to_quit, quit_body, quit_block}
use Rattle.ada_events.specs.Forced.{left, first_of_all, forced}
use Rattle.ada_events.specs.Termination.{all_terminated, is_complete, is_abandoned}
use Rattle.ada_events.specs.Asks.{asked_event}
use Rattle.ada_events.specs.Lawful.{IsLawful, IsAsked, Forces}
use Rattle.ada_events.specs.Lawful.Forces.{nothing, one_more}
use Rattle.ada_events.specs.Refusals.{refusal}
use Rattle.ada_laws.specs.Groups.{EndsInGroup, StepsFollowTheirRequest}

pub empty_is_settled : forced [] ≡ None
unfolding any_event first_given gathered first_below all_below task_count creation_of reaches depends_on has_start is_completed is_terminated has_ended
    is_abnormal all_terminated is_complete is_abandoned is_to_halt halted failed met cancelled passed woken activated is_to_go gone is_to_quit quit_body
    quit_block left first_of_all forced
empty_is_settled = refl

-- a group begins with the event of its request
begins : (event : Event) (before : List Event) → IsLawful before → (asked : IsAsked refusal before event) → EndsInGroup (event ∷ before) before asked.request
begins event before lawful asked = record {
  lawful = lawful;
  settled = asked.settled;
  accepted = asked.accepted;
  forces = subst (λ (e : Event). Forces (asked_event before asked.request ∷ before) (e ∷ before)) (sym asked.becomes) nothing;
}

pub steps_follow_their_request : StepsFollowTheirRequest
steps_follow_their_request event [] lawful =
    elim lawful.1 [
      | inl forces ↦ absurd (none-some event (sym empty_is_settled ∙ forces))
      | inr asked ↦ ([], asked.request, begins event [] lawful.0 asked)
    ]
steps_follow_their_request event (prior ∷ rest) lawful =
    elim lawful.1 [
      | inl forces ↦
          let (old, request, group) = steps_follow_their_request prior rest lawful.0 in
          (old, request, record { lawful = group.lawful; settled = group.settled; accepted = group.accepted; forces = one_more group.forces forces })
      | inr asked ↦ (prior ∷ rest, asked.request, begins event (prior ∷ rest) lawful.0 asked)
    ]
