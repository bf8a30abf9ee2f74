-- A start names only tasks that exist.
use Rattle.std.proofs.Common.{◌≡◌, ℕ, ◌<◌, ◌≤◌, true, false, not, eqb, Some, None, List, [], ◌∷◌, sym, ap, ◌∙◌, arith, inl, inr}
use Rattle.std.specs.List.{list_any}
use Rattle.std.proofs.lemmas.Bool.{or_cases, or_parts, eqb-true, ltb-true, not-false, false≢true}
use Rattle.std.proofs.lemmas.Option.{none-some, same_Some}
use Rattle.ada_events.specs.declared.event.Event.{Event}
use Rattle.ada_events.specs.declared.request.Request.{Request}
use Rattle.ada_events.specs.declared.request.Request.TheVariants as request
use Rattle.ada_events.specs.declared.names.TaskNo.{TaskNo}
use Rattle.ada_events.specs.Search.{is_some_and, event_at}
use Rattle.ada_events.specs.Says.{Start, start_in}
use Rattle.ada_events.specs.Tasks.{task_count, has_task}
use Rattle.ada_events.specs.Phases.{lists_task}
use Rattle.ada_events.specs.Asks.{asker, asked_event, named_tasks}
use Rattle.ada_events.specs.Refusals.{names_unknown_task}
use Rattle.ada_events.specs.Lawful.{MayFollow}
use Rattle.ada_laws.specs.Unlimited.{IsLawfulUnlimited, refusal_but_limits}
use Rattle.ada_laws.proofs.asking.Limitless.{is_accepted-unlimited}
use Rattle.ada_laws.proofs.searching.Searching.{event_at-cases}
use Rattle.ada_laws.proofs.searching.Saying.{held_in-start}
use Rattle.ada_laws.proofs.searching.Growing.{task_count-more}
use Rattle.ada_laws.proofs.forced.Stepping.{forced-step}

all_exist : (journal : List Event) (tasks : List TaskNo) (u : ℕ) → list_any (λ (t : TaskNo). not (has_task journal t.0)) tasks ≡ false
    → lists_task u tasks ≡ true → u < task_count journal
all_exist journal [] u none among = absurd (false≢true among)
all_exist journal (t ∷ rest) u none among =
    let both = or_parts (not (has_task journal t.0)) (list_any (λ (t : TaskNo). not (has_task journal t.0)) rest) none in
    elim (or_cases (eqb t.0 u) (lists_task u rest) among) [
      | inl same ↦
          let below : t.0 < task_count journal = ltb-true t.0 (task_count journal) (not-false (has_task journal t.0) both.0) in
          let one : t.0 ≡ u = eqb-true t.0 u same in
          omega arith
      | inr later ↦ all_exist journal rest u both.1 later
    ]

asked_exist : (journal : List Event) (r : Request) (s : Start) (u : ℕ) → refusal_but_limits journal r ≡ None
    → start_in (asked_event journal r) ≡ Some s → lists_task u s.tasks ≡ true → u < task_count journal
unfolding asked_event start_in names_unknown_task named_tasks
asked_exist journal (request.Activate by tasks) s u accepted says among =
    let known = (is_accepted-unlimited journal (request.Activate by tasks) accepted).tasks_known in
    let both = or_parts (is_some_and (asker (request.Activate by tasks)) (λ t. not (has_task journal t)))
    (list_any (λ (t : TaskNo). not (has_task journal t.0)) tasks) known in
    all_exist journal tasks u both.1 (ap (λ (x : Start). lists_task u x.tasks) (same_Some _ s says) ∙ among)
asked_exist journal _ s u accepted says among = absurd (none-some s says)

pub start_exist : (event : Event) (before : List Event) (s : Start) (u : ℕ) → MayFollow refusal_but_limits before event → start_in event ≡ Some s
    → lists_task u s.tasks ≡ true → u < task_count before
start_exist event before s u (inl forces) says among =
    absurd (none-some s.by (sym (forced-step before event forces).holds_none ∙ held_in-start event s says))
start_exist event before s u (inr asked) says among =
    asked_exist before asked.request s u asked.accepted (ap start_in (sym asked.becomes) ∙ says) among

pub started_exist : (journal : List Event) (p u : ℕ) (e : Event) (s : Start) → IsLawfulUnlimited journal → event_at journal p ≡ Some e
    → start_in e ≡ Some s → lists_task u s.tasks ≡ true → u < task_count journal
unfolding event_at
started_exist [] p u e s lawful at says among = absurd (none-some e at)
started_exist (event ∷ before) p u e s lawful at says among =
    let more : task_count before ≤ task_count (event ∷ before) = task_count-more event before in
    elim (event_at-cases event before p e at) [
      | inl newest ↦
          let below : u < task_count before = start_exist event before s u lawful.1 (ap start_in newest.1 ∙ says) among in
          omega arith
      | inr older ↦
          let below : u < task_count before = started_exist before p u e s lawful.0 older says among in
          omega arith
    ]
