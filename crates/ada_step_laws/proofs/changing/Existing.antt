-- Whom an event names exists.
use Rattle.std.proofs.Common.{◌≡◌, ℕ, zero, suc, ◌<◌, Bool, true, false, not, ◌||◌, eqb, Option, Some, None, List, [], ◌∷◌, length}
use Rattle.std.proofs.Common.{get_or, ap, sym, ◌∙◌, subst, refl, arith}
use Rattle.std.proofs.Common.{inl, inr}
use Rattle.std.specs.Option.{option_map_or}
use Rattle.std.specs.List.{list_any}
use Rattle.std.proofs.lemmas.Bool.{or_cases, or_parts, not-false, false≢true, eqb-true, ltb-true}
use Rattle.std.proofs.lemmas.Option.{same_Some, none-some}
use Rattle.ada_events.specs.declared.event.Event.{Event}
use Rattle.ada_events.specs.declared.event.Event.TheVariants as kind
use Rattle.ada_events.specs.declared.names.TaskNo.{TaskNo}
use Rattle.ada_events.specs.declared.request.Request.{Request}
use Rattle.ada_events.specs.declared.request.Request.TheVariants as request
use Rattle.ada_events.specs.Search.{is_number, is_some_and, event_at}
use Rattle.ada_events.specs.Says.{completed_in, elaborated_in, gone_in, quit_in, started_in}
use Rattle.ada_events.specs.Tasks.{task_count, has_task}
use Rattle.ada_events.specs.Masters.{depends_on}
use Rattle.ada_events.specs.Phases.{lists_task}
use Rattle.ada_events.specs.Outcomes.{raised_in}
use Rattle.ada_events.specs.Asks.{asker, named_tasks, asked_event}
use Rattle.ada_events.specs.Refusals.{refusal, names_unknown_task}
use Rattle.ada_events.specs.Lawful.{MayFollow}
use Rattle.ada_laws.proofs.searching.Searching.{is_number-some, option_map_or-true}
use Rattle.ada_laws.proofs.asking.Accepting.{is_accepted, asker_exists}
use Rattle.ada_laws.proofs.forced.Rows.{IsRow, forced-row}
use Rattle.ada_laws.proofs.forced.Rows.IsRow.{halts, goes}
use Rattle.ada_laws.proofs.within.Depending.{depends_exists}
use Rattle.ada_laws.proofs.held.OutcomeLaws.{row-raises_none, raised_in-asked}
use Rattle.ada_laws.proofs.within.DependentLaws.{gone_in-asked}
use Rattle.ada_laws.proofs.searching.Saying.{asked_completes, asked_elaborates}
use Rattle.ada_laws.proofs.forced.Stepping.{row_elaborates}
use Rattle.ada_step_laws.proofs.changing.QueueChanges.{ends}
use Rattle.ada_events.proofs.Positions.{event_at-other}

row_completed : (journal : List Event) (event : Event) (u : ℕ) → IsRow journal event → completed_in event ≡ Some u → u < task_count journal
unfolding completed_in
row_completed journal event u (halts v below halt) says = subst (λ (n : ℕ). n < task_count journal) (same_Some v u says) below
row_completed journal event u _ says = absurd (none-some u says)

pub completed_exists : (event : Event) (before : List Event) (u : ℕ) → MayFollow refusal before event → completed_in event ≡ Some u → u < task_count before
completed_exists event before u (inl forces) says = row_completed before event u (forced-row before event forces) says
completed_exists event before u (inr asked) says =
    asker_exists before asked.request u asked.accepted (asked_completes before asked.request u (ap completed_in (sym asked.becomes) ∙ says))

row_gone : (journal : List Event) (event : Event) (u : ℕ) → IsRow journal event → gone_in event ≡ Some u → u < task_count journal
unfolding gone_in
row_gone journal event u (goes v below go) says = subst (λ (n : ℕ). n < task_count journal) (same_Some v u says) below
row_gone journal event u _ says = absurd (none-some u says)

pub gone_exists : (event : Event) (before : List Event) (u : ℕ) → MayFollow refusal before event → gone_in event ≡ Some u → u < task_count before
gone_exists event before u (inl forces) says = row_gone before event u (forced-row before event forces) says
gone_exists event before u (inr asked) says = absurd (none-some u (sym (ap gone_in asked.becomes ∙ gone_in-asked before asked.request) ∙ says))

pub elaborated_exists : (event : Event) (before : List Event) (u : ℕ) → MayFollow refusal before event → elaborated_in event ≡ Some u → u < task_count before
elaborated_exists event before u (inl forces) says = absurd (none-some u (sym (row_elaborates before event (forced-row before event forces)) ∙ says))
elaborated_exists event before u (inr asked) says =
    asker_exists before asked.request u asked.accepted (asked_elaborates before asked.request u (ap elaborated_in (sym asked.becomes) ∙ says))

pub raiser_exists : (event : Event) (before : List Event) (u : ℕ) → MayFollow refusal before event → raised_in event ≡ Some u → u < task_count before
raiser_exists event before u (inl forces) says = absurd (none-some u (sym (row-raises_none before event (forced-row before event forces)) ∙ says))
raiser_exists event before u (inr asked) says =
    asker_exists before asked.request u asked.accepted (raised_in-asked before asked.request u (ap raised_in (sym asked.becomes) ∙ says))

-- the task that ends a rendezvous
abbrev ender_in : Event → Option ℕ
ender_in (kind.Ended by call raised) = Some by.0
ender_in _ = None

row_ends_none : (journal : List Event) (event : Event) → IsRow journal event → ender_in event ≡ None
row_ends_none journal event (halts v below halt) = refl
row_ends_none journal event _ = refl

asked_ends : (journal : List Event) (r : Request) (u : ℕ) → ender_in (asked_event journal r) ≡ Some u → asker r ≡ Some u
unfolding asked_event asker
asked_ends journal (request.End by raised) u says = says
asked_ends journal _ u says = absurd (none-some u says)

pub ender_exists : (event : Event) (before : List Event) (by : TaskNo) (call : ℕ) (raised : Bool) → MayFollow refusal before event
    → event ≡ kind.Ended by call raised → by.0 < task_count before
ender_exists event before by call raised (inl forces) is =
    absurd (none-some by.0 (sym (row_ends_none before event (forced-row before event forces)) ∙ ap ender_in is))
ender_exists event before by call raised (inr asked) is =
    asker_exists before asked.request by.0 asked.accepted (asked_ends before asked.request by.0 (ap ender_in (sym asked.becomes) ∙ ap ender_in is))

-- whom an event ends exists
pub ends_exists : (event : Event) (before : List Event) (u : ℕ) → MayFollow refusal before event → ends event before u ≡ true → u < task_count before
ends_exists event before u follows ended =
    elim (or_cases (is_number u (completed_in event)) (is_number u (gone_in event) || option_map_or (depends_on before u) (quit_in event) false) ended) [
      | inl completes ↦ completed_exists event before u follows (is_number-some u (completed_in event) completes)
      | inr terminates ↦
          elim (or_cases (is_number u (gone_in event)) (option_map_or (depends_on before u) (quit_in event) false) terminates) [
            | inl gone ↦ gone_exists event before u follows (is_number-some u (gone_in event) gone)
            | inr quit ↦
                let (m, says, depends) = option_map_or-true (depends_on before u) (quit_in event) quit in
                depends_exists before u m depends
          ]
    ]

row_starts : (journal : List Event) (event : Event) → IsRow journal event → started_in event ≡ []
unfolding started_in
row_starts journal event (halts v below halt) = refl
row_starts journal event _ = refl

asked_starts : (journal : List Event) (r : Request) → refusal journal r ≡ None
    → list_any (λ (t : TaskNo). not (has_task journal t.0)) (started_in (asked_event journal r)) ≡ false
unfolding started_in asked_event names_unknown_task named_tasks
asked_starts journal (request.Activate by tasks) accepted =
    (or_parts (is_some_and (asker (request.Activate by tasks)) (λ t. not (has_task journal t))) (list_any (λ (t : TaskNo). not (has_task journal t.0)) tasks)
    (is_accepted journal (request.Activate by tasks) accepted).tasks_known).1
asked_starts journal _ accepted = refl

-- the tasks that a start names exist
starts_known : (event : Event) (before : List Event) → MayFollow refusal before event
    → list_any (λ (t : TaskNo). not (has_task before t.0)) (started_in event) ≡ false
starts_known event before (inl forces) = rw (row_starts before event (forced-row before event forces)) refl
starts_known event before (inr asked) =
    ap (λ (e : Event). list_any (λ (t : TaskNo). not (has_task before t.0)) (started_in e)) asked.becomes ∙ asked_starts before asked.request asked.accepted

known_at : (journal : List Event) (tasks : List TaskNo) (k : ℕ) (d : TaskNo) → list_any (λ (t : TaskNo). not (has_task journal t.0)) tasks ≡ false
    → k < length tasks → (get_or tasks k d).0 < task_count journal
known_at journal [] k d known below = absurd (omega (arith, below))
known_at journal (t ∷ rest) zero d known below =
    ltb-true t.0 (task_count journal) (not-false (has_task journal t.0)
    (or_parts (not (has_task journal t.0)) (list_any (λ (u : TaskNo). not (has_task journal u.0)) rest) known).0)
known_at journal (t ∷ rest) (suc k) d known below =
    known_at journal rest k d (or_parts (not (has_task journal t.0)) (list_any (λ (u : TaskNo). not (has_task journal u.0)) rest) known).1
    (omega (arith, below))

pub started_at_exists : (event : Event) (before : List Event) (k : ℕ) (d : TaskNo) → MayFollow refusal before event → k < length (started_in event)
    → (get_or (started_in event) k d).0 < task_count before
started_at_exists event before k d follows below = known_at before (started_in event) k d (starts_known event before follows) below

known_listed : (journal : List Event) (tasks : List TaskNo) (u : ℕ) → list_any (λ (t : TaskNo). not (has_task journal t.0)) tasks ≡ false
    → lists_task u tasks ≡ true → u < task_count journal
known_listed journal [] u known lists = absurd (false≢true lists)
known_listed journal (t ∷ rest) u known lists =
    let parts = or_parts (not (has_task journal t.0)) (list_any (λ (v : TaskNo). not (has_task journal v.0)) rest) known in
    elim (or_cases (eqb t.0 u) (lists_task u rest) lists) [
      | inl same ↦ subst (λ (n : ℕ). n < task_count journal) (eqb-true t.0 u same)
          (ltb-true t.0 (task_count journal) (not-false (has_task journal t.0) parts.0))
      | inr later ↦ known_listed journal rest u parts.1 later
    ]

pub started_exists : (event : Event) (before : List Event) (u : ℕ) → MayFollow refusal before event → lists_task u (started_in event) ≡ true
    → u < task_count before
started_exists event before u follows lists = known_listed before (started_in event) u (starts_known event before follows) lists

-- positions count from 1
pub positive : (journal : List Event) (e : Event) → event_at journal 0 ≡ Some e → ⊥
unfolding event_at
positive [] e at = none-some e at
positive (event ∷ before) e at = positive before e (sym (event_at-other event before 0 (λ same. omega (arith, same))) ∙ at)
