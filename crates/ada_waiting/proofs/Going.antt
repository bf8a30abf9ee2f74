-- A task that runs now ran before the last request, or the request's event or a step let it go on.
use Rattle.std.proofs.Common.{◌≡◌, ℕ, Bool, true, false, not, ◌&&◌, ◌||◌, ◌⊎◌, Some, None, List, [], ◌∷◌}
use Rattle.std.proofs.Common.{refl, sym, ap, ◌∙◌, subst, arith, inl, inr}
use Rattle.std.specs.Prelude.{◌==◌}
use Rattle.std.specs.Bool.{then_some}
use Rattle.std.specs.List.{list_any}
use Rattle.std.specs.Option.{option_and_then}
use Rattle.std.proofs.lemmas.Bool.{cases_Bool, true≢false, false≢true, or_parts, or_cases, and_parts, not-true, not-false}
use Rattle.std.proofs.lemmas.Bool.{eqb-true, ltb-false, false_from_ne_true}
use Rattle.std.proofs.lemmas.Option.{none-some}
use Rattle.ada_events.specs.declared.event.Event.{Event}
use Rattle.ada_events.specs.declared.event.Event.TheVariants as event
use Rattle.ada_events.specs.declared.request.Request.{Request}
use Rattle.ada_events.specs.declared.request.Request.TheVariants as request
use Rattle.ada_events.specs.declared.names.TaskNo.{TaskNo}
use Rattle.ada_events.specs.Asks.{asked_event}
use Rattle.ada_events.specs.Search.{is_number, is_some_and, event_at}
use Rattle.ada_events.specs.Says.{Creation, held_in, released_in, started_in}
use Rattle.ada_events.specs.Tasks.{creation_of, has_task, task_count}
use Rattle.ada_events.specs.Phases.{lists_task, has_start, is_released, has_ended, is_suspended, is_started, is_running}
use Rattle.ada_events.specs.Refusals.{refusal, may_activate, has_double_task, is_not_your_task}
use Rattle.ada_events.specs.Lawful.{IsLawful, MayFollow}
use Rattle.ada_laws.specs.Suspension.{IsSuspendedAt}
use Rattle.ada_laws.proofs.asking.Accepting.{is_accepted, asker_runs, running_started}
use Rattle.ada_laws.proofs.within.Depending.{started_named, created_positive}
use Rattle.ada_laws.proofs.searching.Growing.{has_ended-before, is_released-more}
use Rattle.ada_laws.proofs.held.Releasing.{follows_unreleased}
use Rattle.ada_laws.proofs.searching.Saying.{held_in-asked}
use Rattle.ada_laws.proofs.searching.Searching.{three_parts, event_at-older, event_at-cases, is_number-some, is_number-from, option_and_then-some}
use Rattle.ada_laws.proofs.searching.Searching.{option_map_or-true}
use Rattle.ada_laws.proofs.forced.Stepping.{forced-step}
use Rattle.ada_laws.proofs.held.Suspending.{is_suspended-at, is_suspended-from}
use Rattle.ada_records.proofs.recording.Unmade.{unmade}
use Rattle.ada_waiting.specs.Runnable.{is_step, before_last, began_to_run}
use Rattle.ada_waiting.specs.internal.Going.{last_group, lets_go}

-- ---- what a task needs to go on

released_by : (event : Event) (before : List Event) (p : ℕ) → is_released (event ∷ before) p ≡ true → is_released before p ≡ false → released_in event ≡ Some p
unfolding is_released
released_by event before p now not_yet =
    elim (or_cases (is_number p (released_in event)) (list_any (λ (e : Event). is_number p (released_in e)) before) now) [
      | inl here ↦ is_number-some p (released_in event) here
      | inr there ↦ absurd (true≢false (sym there ∙ not_yet))
    ]

-- a task that runs ran before an event that neither started it nor released it where it was suspended
ran_before : (event : Event) (before : List Event) (task : ℕ) → is_running (event ∷ before) task ≡ true → lists_task task (started_in event) ≡ false
    → ((p : ℕ) → released_in event ≡ Some p → IsSuspendedAt before task p → ⊥) → is_running before task ≡ true
unfolding is_running is_started
ran_before event before task runs unlisted apart =
    let parts = three_parts (lists_task task (started_in event) && not (has_ended before task) || is_started before task)
    (has_ended (event ∷ before) task) (is_suspended (event ∷ before) task) runs in
    let was_started : is_started before task ≡ true = rw unlisted at parts.0 in
    let was_free : is_suspended before task ≡ false = false_from_ne_true (is_suspended before task) (λ held.
    let (p, h) = is_suspended-at before task held in
    stays p h parts.1 parts.2) in
    rw (was_started, has_ended-before event before task parts.1, was_free) refl
  where
    stays : (p : ℕ) → IsSuspendedAt before task p → has_ended (event ∷ before) task ≡ false → is_suspended (event ∷ before) task ≡ false → ⊥
    stays p h live free =
        elim (cases_Bool (is_released (event ∷ before) p)) [
          | inl freed ↦ apart p (released_by event before p freed h.unreleased) h
          | inr held ↦
              let still : IsSuspendedAt (event ∷ before) task p = record {
                event = h.event;
                stands = event_at-older event before p h.event h.stands;
                holds = h.holds;
                unreleased = held;
                live = live;
              } in
              true≢false (sym (is_suspended-from (event ∷ before) task p still) ∙ free)
        ]

idle_if_ended : (a b : Bool) → (a && not true && not b) ≡ false
idle_if_ended true b = refl
idle_if_ended false b = refl

idle_if_suspended : (a b : Bool) → (a && not b && not true) ≡ false
idle_if_suspended true true = refl
idle_if_suspended true false = refl
idle_if_suspended false b = refl

-- a task doesn't run that something unreleased holds up
idle_if_held : (journal : List Event) (task p : ℕ) (e : Event) → event_at journal p ≡ Some e → held_in e ≡ Some task → is_released journal p ≡ false
    → is_running journal task ≡ false
unfolding is_running
idle_if_held journal task p e stands holds unreleased =
    elim (cases_Bool (has_ended journal task)) [
      | inl ended ↦ rw ended (idle_if_ended (is_started journal task) (is_suspended journal task))
      | inr live ↦
          rw (is_suspended-from journal task p (record { event = e; stands = stands; holds = holds; unreleased = unreleased; live = live }))
          (idle_if_suspended (is_started journal task) (has_ended journal task))
    ]

-- ---- requests and steps

step_holds : (event : Event) (task : ℕ) → is_step event ≡ true → held_in event ≡ Some task → ⊥
unfolding is_step held_in
step_holds (event.Called by callee entry patience due) task step holds = true≢false (sym step)
step_holds (event.Waiting by pick choices tail) task step holds = true≢false (sym step)
step_holds (event.Paused by due) task step holds = true≢false (sym step)
step_holds (event.Started by tasks) task step holds = true≢false (sym step)
step_holds (event.Closed by block) task step holds = true≢false (sym step)
step_holds _ task step holds = none-some task holds

starting_holds : (event : Event) (task : ℕ) → lists_task task (started_in event) ≡ true → (by : ℕ) × (held_in event ≡ Some by)
unfolding started_in held_in
starting_holds (event.Started by tasks) task lists = (by.0, refl)
starting_holds _ task lists = absurd (false≢true lists)

-- who is held up by an event that isn't forced asked for it, and ran
asked_runs : (event : Event) (before : List Event) (task : ℕ) → MayFollow refusal before event → held_in event ≡ Some task → is_running before task ≡ true
asked_runs event before task (inl forces) holds = absurd (none-some task (sym (forced-step before event forces).holds_none ∙ holds))
asked_runs event before task (inr asked) holds =
    asker_runs before asked.request task asked.accepted (held_in-asked before asked.request task (ap held_in (sym asked.becomes) ∙ holds))

one_of : (test : TaskNo → Bool) (tasks : List TaskNo) (task : ℕ) → list_any test tasks ≡ false → lists_task task tasks ≡ true
    → (t : TaskNo) × (t.0 ≡ task) × (test t ≡ false)
one_of test [] task none lists = absurd (false≢true lists)
one_of test (t ∷ rest) task none lists =
    let parts = or_parts (test t) (list_any test rest) none in
    elim (or_cases (t.0 == task) (lists_task task rest) lists) [
      | inl here ↦ (t, eqb-true t.0 task here, parts.0)
      | inr there ↦ one_of test rest task parts.1 there
    ]

made_idle : (journal : List Event) (by task : ℕ) → may_activate journal by task ≡ true → is_running journal task ≡ false
unfolding may_activate
made_idle journal by task may =
    let parts = and_parts (is_some_and (creation_of journal task) (λ (c : Creation). c.by == by)) (not (has_start journal task)) may in
    let (c, makes, mine) = option_map_or-true (λ (c : Creation). c.by == by) (creation_of journal task) parts.0 in
    false_from_ne_true (is_running journal task) (λ runs.
    elim (started_named journal task (running_started journal task runs)) [
      | inl main ↦ omega (arith, main, created_positive journal task c makes)
      | inr named ↦ true≢false (sym named ∙ not-true (has_start journal task) parts.1)
    ])

activated_idle : (journal : List Event) (request : Request) (task : ℕ) → refusal journal request ≡ None
    → lists_task task (started_in (asked_event journal request)) ≡ true → is_running journal task ≡ false
unfolding asked_event started_in is_not_your_task
activated_idle journal (request.Activate by tasks) task accepted lists =
    let free = or_parts (list_any (λ (t : TaskNo). not (may_activate journal by.0 t.0)) tasks) (has_double_task tasks)
    (is_accepted journal (request.Activate by tasks) accepted).your_tasks in
    let (t, same, may) = one_of (λ (t : TaskNo). not (may_activate journal by.0 t.0)) tasks task free.0 lists in
    made_idle journal by.0 task (subst (λ n. may_activate journal by.0 n ≡ true) same (not-false (may_activate journal by.0 t.0) may))
activated_idle journal _ task accepted lists = absurd (false≢true lists)

-- a task that an event starts didn't run
started_idle : (event : Event) (before : List Event) (task : ℕ) → MayFollow refusal before event → lists_task task (started_in event) ≡ true
    → is_running before task ≡ false
started_idle event before task (inl forces) lists =
    let (by, holds) = starting_holds event task lists in
    absurd (none-some by (sym (forced-step before event forces).holds_none ∙ holds))
started_idle event before task (inr asked) lists =
    activated_idle before asked.request task asked.accepted (subst (λ (e : Event). lists_task task (started_in e) ≡ true) asked.becomes lists)

-- ---- the journal before the last request

before_step : (event : Event) (before : List Event) → is_step event ≡ true → before_last (event ∷ before) ≡ before_last before
unfolding before_last
before_step event before step = rw step refl

group_step : (event : Event) (before : List Event) → is_step event ≡ true → last_group (event ∷ before) ≡ event ∷ last_group before
unfolding last_group
group_step event before step = rw step refl

no_group : last_group [] ≡ []
unfolding last_group
no_group = refl

before_asked : (event : Event) (before : List Event) → is_step event ≡ false → before_last (event ∷ before) ≡ before
unfolding before_last
before_asked event before asked = rw asked refl

group_asked : (event : Event) (before : List Event) → is_step event ≡ false → last_group (event ∷ before) ≡ event ∷ []
unfolding last_group
group_asked event before asked = rw asked refl

-- whether something of the group lets a task go on
any_of_step : (event : Event) (before : List Event) (task : ℕ) (b : Bool) → is_step event ≡ true
    → list_any (lets_go (before_last (event ∷ before)) task) (last_group (event ∷ before)) ≡ b
    → (lets_go (before_last before) task event || list_any (lets_go (before_last before) task) (last_group before)) ≡ b
any_of_step event before task b step any = rw (before_step event before step, group_step event before step) at any

any_of_asked : (event : Event) (before : List Event) (task : ℕ) (b : Bool) → is_step event ≡ false
    → list_any (lets_go (before_last (event ∷ before)) task) (last_group (event ∷ before)) ≡ b → (lets_go before task event || false) ≡ b
any_of_asked event before task b asked any = rw (before_asked event before asked, group_asked event before asked) at any

-- what holds a task up stands in it, or is the event of the request, and the task ran
held_before : (journal : List Event) (task p : ℕ) (e : Event) → IsLawful journal → event_at journal p ≡ Some e → held_in e ≡ Some task
    → (event_at (before_last journal) p ≡ Some e) ⊎ (is_running (before_last journal) task ≡ true)
unfolding before_last
held_before [] task p e lawful at holds = inl at
held_before (event ∷ before) task p e lawful at holds =
    elim (cases_Bool (is_step event)) [
      | inl step ↦
          rw step (elim (event_at-cases event before p e at) [
            | inl newest ↦ absurd (step_holds event task step (ap held_in newest.1 ∙ holds))
            | inr older ↦ held_before before task p e lawful.0 older holds
          ])
      | inr asked ↦
          rw asked (elim (event_at-cases event before p e at) [
            | inl newest ↦ inr (asked_runs event before task lawful.1 (ap held_in newest.1 ∙ holds))
            | inr older ↦ inl older
          ])
    ]

released_since : (journal : List Event) (p : ℕ) → is_released (before_last journal) p ≡ true → is_released journal p ≡ true
unfolding before_last
released_since [] p was = was
released_since (event ∷ before) p was =
    elim (cases_Bool (is_step event)) [
      | inl step ↦ is_released-more event before p (released_since before p (rw step at was))
      | inr asked ↦ is_released-more event before p (rw asked at was)
    ]

not_freed : (older : List Event) (event : Event) (task p : ℕ) (e : Event)
    → is_number task (option_and_then held_in (option_and_then (event_at older) (released_in event))) ≡ false
    → released_in event ≡ Some p → event_at older p ≡ Some e → held_in e ≡ Some task → ⊥
not_freed older event task p e none frees stands holds =
    let there : option_and_then held_in (option_and_then (event_at older) (released_in event)) ≡ Some task = rw (frees, stands) holds in
    true≢false (sym (is_number-from task _ there) ∙ none)

-- a task that runs, and that nothing let go on since, ran then
none_let_go : (journal : List Event) (task : ℕ) → IsLawful journal → is_running journal task ≡ true
    → list_any (lets_go (before_last journal) task) (last_group journal) ≡ false → is_running (before_last journal) task ≡ true
unfolding before_last
none_let_go [] task lawful runs none = runs
none_let_go (event ∷ before) task lawful runs none =
    elim (cases_Bool (is_step event)) [
      | inl step ↦
          let parts = or_parts (lets_go (before_last before) task event) (list_any (lets_go (before_last before) task) (last_group before))
          (any_of_step event before task false step none) in
          let here = or_parts (lists_task task (started_in event)) _ parts.0 in
          rw (before_step event before step) (elim (cases_Bool (is_running (before_last before) task)) [
            | inl ran ↦ ran
            | inr idle ↦
                none_let_go before task lawful.0 (ran_before event before task runs here.0 (λ p frees held.
                elim (held_before before task p held.event lawful.0 held.stands held.holds) [
                  | inl stands ↦ not_freed (before_last before) event task p held.event here.1 frees stands held.holds
                  | inr ran ↦ true≢false (sym ran ∙ idle)
                ])) parts.1
          ])
      | inr asked ↦
          let parts = or_parts (lets_go before task event) false (any_of_asked event before task false asked none) in
          let here = or_parts (lists_task task (started_in event)) _ parts.0 in
          rw (before_asked event before asked) (ran_before event before task runs here.0 (λ p frees held.
          not_freed before event task p held.event here.1 frees held.stands held.holds))
    ]

-- what an event releases that stands in an older journal holds its task up there
freed_idle : (older : List Event) (event : Event) (before : List Event) (task : ℕ) → MayFollow refusal before event
    → ((p : ℕ) → is_released older p ≡ true → is_released before p ≡ true)
    → is_number task (option_and_then held_in (option_and_then (event_at older) (released_in event))) ≡ true → is_running older task ≡ false
freed_idle older event before task follows since frees =
    let (e, found, holds) = option_and_then-some held_in (option_and_then (event_at older) (released_in event)) task (is_number-some task _ frees) in
    let (p, releases, stands) = option_and_then-some (event_at older) (released_in event) e found in
    idle_if_held older task p e stands holds (false_from_ne_true (is_released older p) (λ was.
    true≢false (sym (since p was) ∙ follows_unreleased event before p follows releases)))

-- a task that something let go on since then didn't run then
some_let_go : (journal : List Event) (task : ℕ) → IsLawful journal → list_any (lets_go (before_last journal) task) (last_group journal) ≡ true
    → is_running (before_last journal) task ≡ false
some_let_go [] task lawful some = absurd (false≢true (rw no_group at some))
some_let_go (event ∷ before) task lawful some =
    elim (cases_Bool (is_step event)) [
      | inl step ↦
          let cases = or_cases (lets_go (before_last before) task event) (list_any (lets_go (before_last before) task) (last_group before))
          (any_of_step event before task true step some) in
          rw (before_step event before step) (elim cases [
            | inl here ↦
                elim (or_cases (lists_task task (started_in event)) _ here) [
                  | inl lists ↦
                      let (by, holds) = starting_holds event task lists in
                      absurd (step_holds event by step holds)
                  | inr frees ↦ freed_idle (before_last before) event before task lawful.1 (released_since before) frees
                ]
            | inr there ↦ some_let_go before task lawful.0 there
          ])
      | inr asked ↦
          let cases = or_cases (lets_go before task event) false (any_of_asked event before task true asked some) in
          rw (before_asked event before asked) (elim cases [
            | inl here ↦
                elim (or_cases (lists_task task (started_in event)) _ here) [
                  | inl lists ↦ started_idle event before task lawful.1 lists
                  | inr frees ↦ freed_idle before event before task lawful.1 (λ p was. was) frees
                ]
            | inr none ↦ absurd (false≢true none)
          ])
    ]

-- a task began to run exactly if it runs, and something let it go on since
pub began_if_let_go : (journal : List Event) (task : ℕ) → IsLawful journal
    → (is_running journal task && list_any (lets_go (before_last journal) task) (last_group journal)) ≡ began_to_run journal task
unfolding began_to_run
began_if_let_go journal task lawful =
    elim (cases_Bool (is_running journal task)) [
      | inr idle ↦ rw idle refl
      | inl runs ↦
          elim (cases_Bool (list_any (lets_go (before_last journal) task) (last_group journal))) [
            | inl some ↦ rw (runs, some, some_let_go journal task lawful some) refl
            | inr none ↦ rw (runs, none, none_let_go journal task lawful runs none) refl
          ]
    ]

pub told_none : (b x : Bool) → then_some b x ≡ None → b ≡ false
told_none true x none = absurd (none-some x (sym none))
told_none false x none = refl

-- a task that doesn't exist doesn't run
pub unknown_idle : (journal : List Event) (task : ℕ) → IsLawful journal → has_task journal task ≡ false → false ≡ is_running journal task
unknown_idle journal task lawful unknown =
    let beyond = ltb-false task (task_count journal) unknown in
    sym (false_from_ne_true (is_running journal task) (λ runs.
    true≢false (sym (running_started journal task runs) ∙ sym (unmade journal task lawful beyond).stage.started)))
