-- Whom an event ends while a call of that task is open: only whom it completes, and only while no rendezvous has begun
-- with the call.
use Rattle.std.proofs.Common.{◌≡◌, ℕ, ◌<◌, true, false, not, ◌&&◌, ◌||◌, eqb, Some, None, List, [], ◌∷◌, sym, refl, ap, ◌∙◌, subst, arith, inl, inr}
use Rattle.std.specs.Option.{option_map_or}
use Rattle.std.proofs.lemmas.Bool.{and_parts, and_from, or_cases, not-true, eq-eqb, eqb-true, false_from_ne_true, true≢false}
use Rattle.std.proofs.lemmas.Option.{same_Some, none-some}
use Rattle.ada_events.specs.declared.event.Event.{Event}
use Rattle.ada_events.specs.declared.request.Request.{Request}
use Rattle.ada_events.specs.declared.request.Request.TheVariants as request
use Rattle.ada_events.specs.declared.names.Master.{Master}
use Rattle.ada_events.specs.declared.names.Master.TheVariants.{Body}
use Rattle.ada_events.specs.Search.{is_number, is_some_and, event_at, all_below}
use Rattle.ada_events.specs.Says.{Call, Wait, call_in, wait_in, held_in, completed_in, gone_in, quit_in}
use Rattle.ada_events.specs.Tasks.{task_count}
use Rattle.ada_events.specs.Masters.{depends_on}
use Rattle.ada_events.specs.Phases.{is_completed, is_terminated, has_ended, is_abnormal, is_released, is_started}
use Rattle.ada_events.specs.Calls.{is_open_at, is_met, is_joined_at, is_caller_in_rendezvous}
use Rattle.ada_events.specs.Termination.{all_terminated, is_complete, is_abandoned, is_open_terminate, is_at_open_terminate, has_empty_queues, is_ready_to_quit}
use Rattle.ada_events.specs.Asks.{asked_event}
use Rattle.ada_events.specs.Forced.{is_to_halt, is_to_go, is_to_quit, task_no}
use Rattle.ada_events.specs.Lawful.{IsLawful, MayFollow}
use Rattle.ada_events.specs.Refusals.{refusal}
use Rattle.ada_laws.specs.Calls.{IsWaitAt, IsOpenCallAt}
use Rattle.ada_laws.specs.Suspension.{IsSuspendedAt}
use Rattle.ada_laws.proofs.searching.Searching.{three_parts, any_event-found, any_event-from, is_number-some, option_map_or-true, event_at-cases}
use Rattle.ada_laws.proofs.searching.Searching.{all_below-holds}
use Rattle.ada_laws.proofs.searching.Saying.{held_in-call, held_in-wait, held_in-asked, asked_completes}
use Rattle.ada_laws.proofs.searching.Growing.{has_ended-completed, has_ended-terminated}
use Rattle.ada_laws.proofs.asking.Accepting.{asker_runs, running_started, running_free}
use Rattle.ada_laws.proofs.forced.Stepping.{forced-step}
use Rattle.ada_laws.proofs.held.Suspending.{is_suspended-from, suspended_once}
use Rattle.ada_laws.proofs.queues.Queueing.{is_open_at-from, open_call_suspends}
use Rattle.ada_laws.proofs.forced.Rows.{IsRow, forced-row}
use Rattle.ada_laws.proofs.forced.Rows.IsRow.{halts, quits}
use Rattle.ada_laws.proofs.within.Depending.{is_started-more, depends_exists, started_named, created_positive}
use Rattle.ada_laws.proofs.within.DependentLaws.{going, abandoned_parts}
use Rattle.ada_step_laws.proofs.changing.QueueChanges.{ends}
use Rattle.ada_step_laws.proofs.changing.Saying.{not_both}

-- who was ever held up was started
pub held_started : (journal : List Event) (p task : ℕ) (e : Event) → IsLawful journal → event_at journal p ≡ Some e → held_in e ≡ Some task
    → is_started journal task ≡ true
unfolding event_at
held_started [] p task e lawful at holds = absurd (none-some e at)
held_started (event ∷ before) p task e lawful at holds =
    is_started-more event before task
    (elim (event_at-cases event before p e at) [
      | inl newest ↦
          let now : held_in event ≡ Some task = ap held_in newest.1 ∙ holds in
          elim lawful.1 [
            | inl forces ↦ absurd (none-some task (sym (forced-step before event forces).holds_none ∙ now))
            | inr asked ↦
                let asks = held_in-asked before asked.request task (ap held_in (sym asked.becomes) ∙ now) in
                running_started before task (asker_runs before asked.request task asked.accepted asks)
          ]
      | inr older ↦ held_started before p task e lawful.0 older holds
    ])

pub joined_caller : (journal : List Event) (c : Call) (p : ℕ) → IsOpenCallAt journal c p → is_met journal p ≡ true → is_caller_in_rendezvous journal c.by ≡ true
unfolding is_caller_in_rendezvous is_joined_at
joined_caller journal c p opened met =
    any_event-from (λ p e. is_some_and (call_in e) (λ (d : Call). eqb d.by c.by) && (is_open_at journal p e && is_met journal p)) journal p opened.stands.event
    opened.stands.stands
    (and_from (is_some_and (call_in opened.stands.event) (λ (d : Call). eqb d.by c.by)) (is_open_at journal p opened.stands.event && is_met journal p)
    (rw opened.stands.says (eq-eqb c.by c.by refl))
    (and_from (is_open_at journal p opened.stands.event) (is_met journal p) (is_open_at-from journal c p opened) met))

row_completes : (journal : List Event) (event : Event) (u : ℕ) → IsRow journal event → completed_in event ≡ Some u → is_to_halt journal u ≡ true
unfolding completed_in
row_completes journal event u (halts v below halt) says = subst (λ (n : ℕ). is_to_halt journal n ≡ true) (same_Some v u says) halt
row_completes journal event u _ says = absurd (none-some u says)

-- who is completed while a call of the task is open isn't within its rendezvous
completed_unmet : (event : Event) (before : List Event) (c : Call) (p : ℕ) → MayFollow refusal before event → IsOpenCallAt before c p
    → completed_in event ≡ Some c.by → is_met before p ≡ false
unfolding is_to_halt
completed_unmet event before c p (inl forces) opened says =
    let halt = three_parts (is_abnormal before c.by) (has_ended before c.by) (is_caller_in_rendezvous before c.by)
    (row_completes before event c.by (forced-row before event forces) says) in
    false_from_ne_true (is_met before p) (λ met. true≢false (sym (joined_caller before c p opened met) ∙ halt.2))
completed_unmet event before c p (inr asked) opened says =
    let asks = asked_completes before asked.request c.by (ap completed_in (sym asked.becomes) ∙ says) in
    let free = running_free before c.by (asker_runs before asked.request c.by asked.accepted asks) in
    absurd (true≢false (sym (is_suspended-from before c.by p (open_call_suspends before c p opened)) ∙ free))

-- who goes has no open call
open_stays : (journal : List Event) (c : Call) (p : ℕ) → IsLawful journal → IsOpenCallAt journal c p → is_to_go journal c.by ≡ true → ⊥
unfolding is_to_go
open_stays journal c p lawful opened go =
    let ways = (and_parts (not (is_terminated journal c.by))
    (is_completed journal c.by && all_terminated journal (Body (task_no c.by)) || is_abandoned journal c.by) go).1 in
    elim (or_cases (is_completed journal c.by && all_terminated journal (Body (task_no c.by))) (is_abandoned journal c.by) ways) [
      | inl both ↦
          let completed = (and_parts (is_completed journal c.by) (all_terminated journal (Body (task_no c.by))) both).0 in
          true≢false (sym (has_ended-completed journal c.by completed) ∙ opened.live)
      | inr abandoned ↦
          let (k, says, never) = abandoned_parts journal c.by abandoned in
          let positive : 0 < c.by = created_positive journal c.by k says in
          let started = held_started journal p c.by opened.stands.event lawful opened.stands.stands (held_in-call opened.stands.event c opened.stands.says) in
          elim (started_named journal c.by started) [
            | inl main ↦ omega (arith, main, positive)
            | inr named ↦ true≢false (sym named ∙ never)
          ]
    ]

-- a task that hasn't ended is suspended where it waits with an open terminate alternative
pub record IsAtTerminate (journal : List Event) (task : ℕ) : Type 0 where
  pub at : ℕ
  pub wait : Wait
  pub waits : IsWaitAt journal wait at
  pub suspended : IsSuspendedAt journal task at
  pub terminates : is_open_terminate wait.tail ≡ true

pub at_terminate : (journal : List Event) (task : ℕ) → is_at_open_terminate journal task ≡ true → has_ended journal task ≡ false → IsAtTerminate journal task
at_terminate journal task at live =
    let (p, e, stands, passes) = any_event-found (λ p e. is_some_and (wait_in e) (λ (w : Wait). eqb w.by task && is_open_terminate w.tail)
    && not (is_released journal p)) journal at in
    let both = and_parts (is_some_and (wait_in e) (λ (w : Wait). eqb w.by task && is_open_terminate w.tail)) (not (is_released journal p)) passes in
    let (w, says, mine) = option_map_or-true (λ (w : Wait). eqb w.by task && is_open_terminate w.tail) (wait_in e) both.0 in
    let parts = and_parts (eqb w.by task) (is_open_terminate w.tail) mine in
    record {
      at = p;
      wait = w;
      waits = record { event = e; stands = stands; says = says };
      suspended = record {
        event = e;
        stands = stands;
        holds = held_in-wait e w says
            ∙ ap Some (eqb-true w.by task parts.0);
        unreleased = not-true (is_released journal p) both.1;
        live = live;
      };
      terminates = parts.1;
    }

pub row_quits : (journal : List Event) (event : Event) (m : Master) → IsRow journal event → quit_in event ≡ Some m → is_to_quit journal m ≡ true
unfolding quit_in
row_quits journal event m (quits x quit) says = subst (λ (y : Master). is_to_quit journal y ≡ true) (same_Some x m says) quit
row_quits journal event m _ says = absurd (none-some m says)

quit_in-asked : (journal : List Event) (r : Request) → quit_in (asked_event journal r) ≡ None
unfolding quit_in asked_event
quit_in-asked journal (request.Open by) = refl
quit_in-asked journal _ = refl

-- the dependents of a master quit only by the row on it
pub quitting : (event : Event) (before : List Event) (m : Master) → MayFollow refusal before event → quit_in event ≡ Some m → is_to_quit before m ≡ true
quitting event before m (inl forces) says = row_quits before event m (forced-row before event forces) says
quitting event before m (inr asked) says = absurd (none-some m (sym (ap quit_in asked.becomes ∙ quit_in-asked before asked.request) ∙ says))

-- who depends on a master that quits is terminated or ready to quit
pub quits_ready : (journal : List Event) (m : Master) (u : ℕ) → is_to_quit journal m ≡ true → depends_on journal u m ≡ true → is_terminated journal u ≡ false
    → is_ready_to_quit journal u ≡ true
unfolding is_to_quit
quits_ready journal m u quit depends live =
    let all = (and_parts (is_complete journal m && not (all_terminated journal m))
    (all_below (λ u. not (depends_on journal u m) || is_terminated journal u || is_ready_to_quit journal u) (task_count journal)) quit).1 in
    let here = all_below-holds (λ u. not (depends_on journal u m) || is_terminated journal u || is_ready_to_quit journal u) (task_count journal) u all
    (depends_exists journal u m depends) in
    (rw (depends, live) at here)

-- so no call of such a task is open
open_remains : (journal : List Event) (c : Call) (p : ℕ) (m : Master) → IsLawful journal → IsOpenCallAt journal c p → is_to_quit journal m ≡ true
    → depends_on journal c.by m ≡ true → ⊥
unfolding is_ready_to_quit
open_remains journal c p m lawful opened quit depends =
    let live : is_terminated journal c.by ≡ false = false_from_ne_true (is_terminated journal c.by)
    (λ ended. true≢false (sym (has_ended-terminated journal c.by ended) ∙ opened.live)) in
    let ready = and_parts (is_at_open_terminate journal c.by && not (has_ended journal c.by)) (has_empty_queues journal c.by)
    (quits_ready journal m c.by quit depends live) in
    let is = at_terminate journal c.by (and_parts (is_at_open_terminate journal c.by) (not (has_ended journal c.by)) ready.0).0 opened.live in
    let same = suspended_once journal c.by is.at p lawful is.suspended (open_call_suspends journal c p opened) in
    let one : is.waits.event ≡ opened.stands.event = same_Some is.waits.event opened.stands.event
    (sym is.waits.stands ∙ ap (event_at journal) same ∙ opened.stands.stands) in
    not_both opened.stands.event c is.wait opened.stands.says (ap wait_in (sym one) ∙ is.waits.says)

-- the event completes the caller of an open call, with which no rendezvous began
pub record CompletesCaller (event : Event) (before : List Event) (c : Call) (p : ℕ) : Type 0 where
  pub completes : completed_in event ≡ Some c.by
  pub unmet : is_met before p ≡ false

pub end_of_caller : (event : Event) (before : List Event) (c : Call) (p : ℕ) → IsLawful (event ∷ before) → IsOpenCallAt before c p
    → ends event before c.by ≡ true → CompletesCaller event before c p
end_of_caller event before c p lawful opened ended =
    elim (or_cases (is_number c.by (completed_in event))
    (is_number c.by (gone_in event) || option_map_or (depends_on before c.by) (quit_in event) false) ended) [
      | inl completes ↦
          let says = is_number-some c.by (completed_in event) completes in
          record { completes = says; unmet = completed_unmet event before c p lawful.1 opened says }
      | inr terminates ↦
          elim (or_cases (is_number c.by (gone_in event)) (option_map_or (depends_on before c.by) (quit_in event) false) terminates) [
            | inl goes ↦ absurd (open_stays before c p lawful.0 opened (going event before c.by lawful.1 (is_number-some c.by (gone_in event) goes)))
            | inr quit ↦
                let (m, says, depends) = option_map_or-true (depends_on before c.by) (quit_in event) quit in
                absurd (open_remains before c p m lawful.0 opened (quitting event before m lawful.1 says) depends)
          ]
    ]

-- the caller of a joined call isn't ended
pub joined_caller_stays : (event : Event) (before : List Event) (c : Call) (p : ℕ) → IsLawful (event ∷ before) → IsOpenCallAt before c p
    → is_met before p ≡ true → ends event before c.by ≡ false
joined_caller_stays event before c p lawful opened met =
    false_from_ne_true (ends event before c.by) (λ ended. true≢false (sym met ∙ (end_of_caller event before c p lawful opened ended).unmet))

-- nor is that of any open call by an event that completes nobody
pub caller_stays : (event : Event) (before : List Event) (c : Call) (p : ℕ) → IsLawful (event ∷ before) → IsOpenCallAt before c p → completed_in event ≡ None
    → ends event before c.by ≡ false
caller_stays event before c p lawful opened none =
    false_from_ne_true (ends event before c.by) (λ ended. none-some c.by (sym none ∙ (end_of_caller event before c p lawful opened ended).completes))
