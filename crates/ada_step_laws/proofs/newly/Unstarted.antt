-- Tasks that terminate by themselves: completed before, or abandoned and never started.
use Rattle.std.proofs.Common.{◌≡◌, ℕ, ◌<◌, true, false, not, ◌&&◌, ◌||◌, Some, None, List, sym, refl, ap, ◌∙◌, arith, ◌⊎◌, inl, inr}
use Rattle.std.proofs.lemmas.Bool.{and_parts, or_cases, not-true, both_ways, true≢false}
use Rattle.std.proofs.lemmas.Option.{none-some}
use Rattle.ada_events.specs.declared.event.Event.{Event}
use Rattle.ada_events.specs.declared.request.Request.{Request}
use Rattle.ada_events.specs.declared.request.Request.TheVariants as request
use Rattle.ada_events.specs.declared.names.Master.{Master}
use Rattle.ada_events.specs.declared.names.Master.TheVariants.{Body}
use Rattle.ada_events.specs.Search.{is_some_and}
use Rattle.ada_events.specs.Says.{Creation, gone_in, quit_in}
use Rattle.ada_events.specs.Asks.{asked_event}
use Rattle.ada_events.specs.Tasks.{creation_of}
use Rattle.ada_events.specs.Phases.{has_start, is_completed, is_terminated, has_ended}
use Rattle.ada_events.specs.Forced.{is_to_go, is_to_quit}
use Rattle.ada_events.specs.Termination.{all_terminated, is_complete, is_abandoned}
use Rattle.ada_events.specs.Lawful.{MayFollow}
use Rattle.ada_events.specs.Refusals.{refusal}
use Rattle.ada_laws.proofs.searching.Searching.{option_map_or-true}
use Rattle.ada_laws.proofs.searching.Growing.{has_ended-completed}
use Rattle.ada_laws.proofs.forced.Rows.{forced-row}
use Rattle.ada_laws.proofs.within.Depending.{created_positive}
use Rattle.ada_laws.proofs.within.DependentLaws.{row_going}
use Rattle.ada_step_laws.proofs.newly.StartedTasks.{IsNamed}
use Rattle.ada_step_laws.proofs.changing.Callers.{row_quits}

asked_neither : (journal : List Event) (r : Request) → (gone_in (asked_event journal r) ≡ None) × (quit_in (asked_event journal r) ≡ None)
unfolding gone_in quit_in asked_event
asked_neither journal (request.Open by) = (refl, refl)
asked_neither journal _ = (refl, refl)

pub gone_goes : (e : Event) (before : List Event) (task : ℕ) → MayFollow refusal before e → gone_in e ≡ Some task → is_to_go before task ≡ true
gone_goes e before task (inl forces) says = row_going before e task (forced-row before e forces) says
gone_goes e before task (inr asked) says =
    absurd (none-some task (sym (asked_neither before asked.request).0 ∙ (ap gone_in (sym asked.becomes) ∙ says)))

pub quit_quits : (e : Event) (before : List Event) (m : Master) → MayFollow refusal before e → quit_in e ≡ Some m → is_to_quit before m ≡ true
quit_quits e before m (inl forces) says = row_quits before e m (forced-row before e forces) says
quit_quits e before m (inr asked) says =
    absurd (none-some m (sym (asked_neither before asked.request).1 ∙ (ap quit_in (sym asked.becomes) ∙ says)))

-- a task that goes was completed, or it was never started
pub goes_how : (journal : List Event) (task : ℕ) → is_to_go journal task ≡ true → (is_completed journal task ≡ true) ⊎ (is_abandoned journal task ≡ true)
unfolding is_to_go
goes_how journal task go =
    let ways =
    (and_parts (not (is_terminated journal task))
    (is_completed journal task && all_terminated journal (Body (record { 0 = task })) || is_abandoned journal task) go).1
    in
    elim (or_cases (is_completed journal task && all_terminated journal (Body (record { 0 = task }))) (is_abandoned journal task) ways) [
      | inl both ↦ inl (and_parts (is_completed journal task) (all_terminated journal (Body (record { 0 = task }))) both).0
      | inr abandoned ↦ inr abandoned
    ]

pub abandoned_unnamed : (journal : List Event) (task : ℕ) → is_abandoned journal task ≡ true → IsNamed journal task → ⊥
unfolding is_abandoned
abandoned_unnamed journal task abandoned named =
    let both =
    and_parts (is_some_and (creation_of journal task) (λ (c : Creation). is_complete journal c.under || is_terminated journal c.by))
    (not (has_start journal task)) abandoned in
    let (c, says, over) = option_map_or-true (λ (c : Creation). is_complete journal c.under || is_terminated journal c.by) (creation_of journal task) both.0 in
    let positive : 0 < task = created_positive journal task c says in
    elim named [
      | inl main ↦ omega arith
      | inr started ↦ true≢false (sym started ∙ not-true (has_start journal task) both.1)
    ]

-- a task that goes and hadn't ended was never started
pub goes_unnamed : (journal : List Event) (task : ℕ) → is_to_go journal task ≡ true → has_ended journal task ≡ false → IsNamed journal task → ⊥
goes_unnamed journal task go live named =
    elim (goes_how journal task go) [
      | inl completed ↦ both_ways (has_ended journal task) live (has_ended-completed journal task completed)
      | inr abandoned ↦ abandoned_unnamed journal task abandoned named
    ]
