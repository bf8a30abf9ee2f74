-- Who terminates with all that depend on a master (9.4): each is elaborated, is in no rendezvous, and has no open call to
-- it, so that no call fails by that, and no activation ends.
use Rattle.std.proofs.Common.{◌≡◌, ℕ, true, not, ◌&&◌, Some, None, List, [], ◌∷◌, eqb, sym, refl, ap, ◌∙◌, subst, inl, inr}
use Rattle.std.specs.List.{list_any, list_all, Contains}
use Rattle.std.proofs.lemmas.Bool.{and_parts, and_from, or_cases, or_left, or_right, not-true, not-false, not_from_false, both_ways, true≢false}
use Rattle.std.proofs.lemmas.Bool.{cases_Bool, eq-eqb}
use Rattle.std.proofs.lemmas.Option.{none-some, same_Some}
use Rattle.ada_events.specs.declared.event.Event.{Event}
use Rattle.ada_events.specs.declared.event.Event.TheVariants.{Quit, Activated}
use Rattle.ada_events.specs.declared.names.Entry.{Entry}
use Rattle.ada_events.specs.declared.names.Master.{Master}
use Rattle.ada_events.specs.declared.names.Member.TheVariants.{Rendezvous}
use Rattle.ada_events.specs.declared.names.TaskNo.{TaskNo}
use Rattle.ada_events.specs.declared.request.Request.{Request}
use Rattle.ada_events.specs.declared.request.Request.TheVariants as request
use Rattle.ada_events.specs.Search.{is_number, is_some_and, any_event, event_at}
use Rattle.ada_events.specs.Says.{Call, Wait, Start, call_in, wait_in, start_in, held_in, elaborated_in, quit_in}
use Rattle.ada_events.specs.Asks.{asked_event}
use Rattle.ada_events.specs.Refusals.{refusal, is_during_activation, is_rendezvous}
use Rattle.ada_events.specs.Phases.{is_elaborated, has_ended, has_failed}
use Rattle.ada_events.specs.Calls.{queue, is_open_at, is_met, is_queued_at, is_pending}
use Rattle.ada_events.specs.Nests.{nest}
use Rattle.ada_events.specs.Termination.{has_empty_queues}
use Rattle.ada_events.specs.Forced.{is_done_activating, activated_at, is_to_quit}
use Rattle.ada_events.specs.Lawful.{IsLawful, MayFollow}
use Rattle.ada_laws.proofs.asking.Accepting.{is_accepted}
use Rattle.ada_laws.proofs.queues.Queueing.{queue-found, is_open_at-from}
use Rattle.ada_laws.proofs.searching.Saying.{held_in-wait}
use Rattle.ada_laws.proofs.searching.Searching.{event_at-cases, any_event-from, if_some}
use Rattle.ada_laws.proofs.forced.Stepping.{forced-step}
use Rattle.ada_step_laws.specs.Rows.{step_at}
use Rattle.ada_step_laws.specs.declared.row.Row.{Row}
use Rattle.ada_step_laws.specs.declared.row.Row.TheVariants.{Activating}
use Rattle.ada_step_laws.proofs.rows.TakenCalls.{pending_before}
use Rattle.ada_step_laws.specs.Kinds.{IsOpenCallTo}
use Rattle.ada_step_laws.proofs.newly.StartedTasks.{any_none}
use Rattle.ada_step_laws.proofs.newly.Changing.{newly_done}
use Rattle.ada_step_laws.proofs.newly.Depending.{quits_ready}
use Rattle.ada_step_laws.proofs.newly.Quitting.{IsQuitter, quitter_of}
use Rattle.ada_step_laws.proofs.newly.Refining.{older_step}
use Rattle.ada_step_laws.proofs.newly.Releases.{same_event}
use Rattle.ada_step_laws.proofs.newly.Unstarted.{quit_quits}
use Rattle.ada_step_laws.proofs.newly.Waiting.{IsReady, at_wait, ready_parts}
use Rattle.ada_step_laws.proofs.holding.PendingNests.{open_terminates_are_in_no_rendezvous}

-- what the event says
pub quit_says : (m : Master) → quit_in (Quit m) ≡ Some m
unfolding quit_in
quit_says m = refl

elaborates_none : (m : Master) → elaborated_in (Quit m) ≡ None
unfolding elaborated_in
elaborates_none m = refl

pub quit_forced : (m : Master) (before : List Event) → IsLawful (Quit m ∷ before) → is_to_quit before m ≡ true
quit_forced m before lawful = quit_quits (Quit m) before m lawful.1 (quit_says m)

pub quitter_ready : (before : List Event) (m : Master) (t : ℕ) → is_to_quit before m ≡ true → IsQuitter before m t → IsReady before t
quitter_ready before m t quits quitter = ready_parts before t (quits_ready before m t quits quitter.depends quitter.live)

-- no call waits at an entry of who is ready to quit
pub not_queued : (journal : List Event) (task p : ℕ) (entry : Entry) → has_empty_queues journal task ≡ true → Contains (queue journal task entry) p → ⊥
unfolding has_empty_queues is_queued_at
not_queued journal task p entry empty contains =
    let q = queue-found journal task entry p contains in
    let e = q.opened.stands.event in
    let queued =
    and_from (is_open_at journal p e) (not (is_met journal p)) (is_open_at-from journal q.call p q.opened) (not_from_false (is_met journal p) q.unmet) in
    let calls : is_some_and (call_in e) (λ (c : Call). eqb c.callee task) ≡ true = rw q.opened.stands.says (eq-eqb q.call.callee task q.of_task) in
    let test = λ (p : ℕ) (e : Event). is_some_and (call_in e) (λ (c : Call). eqb c.callee task) && is_queued_at journal p e in
    both_ways (any_event test journal) (not-true (any_event test journal) empty)
    (any_event-from test journal p e q.opened.stands.stands
    (and_from (is_some_and (call_in e) (λ (c : Call). eqb c.callee task)) (is_queued_at journal p e) calls queued))

-- nor is it in a rendezvous
not_met : (journal : List Event) (task p : ℕ) → IsLawful journal → IsReady journal task → Contains (nest journal task) (Rendezvous p) → ⊥
not_met journal task p lawful is contains =
    let waits = at_wait journal task is.waits is.live in
    let one = same_event journal waits.position waits.suspended.event waits.event waits.suspended.stands waits.stands in
    let none =
    open_terminates_are_in_no_rendezvous journal task waits.position waits.wait lawful waits.suspended (ap wait_in one ∙ waits.says) waits.opens in
    true≢false (any_none is_rendezvous (nest journal task) (Rendezvous p) none contains)

pub no_open_call : (before : List Event) (t p : ℕ) → IsLawful before → IsReady before t → IsOpenCallTo before t p → ⊥
no_open_call before t p lawful is of =
    elim of.place [ inl queued ↦ not_queued before t p of.call.entry is.empty queued | inr within ↦ not_met before t p lawful is within ]

-- who waits is elaborated
asked_elaborated : (journal : List Event) (r : Request) (w : Wait) → refusal journal r ≡ None → wait_in (asked_event journal r) ≡ Some w
    → is_elaborated journal w.by ≡ true
unfolding asked_event wait_in is_during_activation
asked_elaborated journal (request.Wait by choices tail pick) w accepted says =
    subst (λ (x : Wait). is_elaborated journal x.by ≡ true) (same_Some _ w says)
    (not-false (is_elaborated journal by.0) (is_accepted journal (request.Wait by choices tail pick) accepted).activated)
asked_elaborated journal _ w accepted says = absurd (none-some w says)

new_elaborated : (event : Event) (before : List Event) (w : Wait) → MayFollow refusal before event → wait_in event ≡ Some w → is_elaborated before w.by ≡ true
new_elaborated event before w (inl forces) says = absurd (none-some w.by (sym (forced-step before event forces).holds_none ∙ held_in-wait event w says))
new_elaborated event before w (inr asked) says = asked_elaborated before asked.request w asked.accepted (ap wait_in (sym asked.becomes) ∙ says)

still_elaborated : (event : Event) (before : List Event) (u : ℕ) → is_elaborated before u ≡ true → is_elaborated (event ∷ before) u ≡ true
unfolding is_elaborated
still_elaborated event before u was =
    let earlier = list_any (λ (e : Event). is_number u (elaborated_in e)) before in
    elim (or_cases (eqb u 0) earlier was) [
      | inl main ↦ or_left (eqb u 0) _ main
      | inr ended ↦ or_right (eqb u 0) _ (or_right (is_number u (elaborated_in event)) earlier ended)
    ]

waiting_elaborated : (journal : List Event) (p : ℕ) (e : Event) (w : Wait) → IsLawful journal → event_at journal p ≡ Some e → wait_in e ≡ Some w
    → is_elaborated journal w.by ≡ true
unfolding event_at
waiting_elaborated [] p e w lawful at says = absurd (none-some e at)
waiting_elaborated (event ∷ before) p e w lawful at says =
    elim (event_at-cases event before p e at) [
      | inl now ↦ still_elaborated event before w.by (new_elaborated event before w lawful.1 (ap wait_in now.1 ∙ says))
      | inr older ↦ still_elaborated event before w.by (waiting_elaborated before p e w lawful.0 older says)
    ]

ready_elaborated : (journal : List Event) (task : ℕ) → IsLawful journal → IsReady journal task → is_elaborated journal task ≡ true
ready_elaborated journal task lawful is =
    let waits = at_wait journal task is.waits is.live in
    let one = same_event journal waits.position waits.suspended.event waits.event waits.suspended.stands waits.stands in
    let by : waits.wait.by ≡ task =
    same_Some waits.wait.by task (sym (held_in-wait waits.event waits.wait waits.says) ∙ (ap held_in (sym one) ∙ waits.suspended.holds)) in
    subst (λ (n : ℕ). is_elaborated journal n ≡ true) by
    (waiting_elaborated journal waits.position waits.event waits.wait lawful waits.stands waits.says)

-- so an activation that is over was over before
done_before : (m : Master) (before : List Event) (u : TaskNo) → IsLawful (Quit m ∷ before) → is_done_activating (Quit m ∷ before) u ≡ true
    → is_done_activating before u ≡ true
unfolding is_done_activating
done_before m before u lawful now =
    elim (cases_Bool (is_done_activating before u)) [
      | inl was ↦ was
      | inr not_yet ↦
          elim (newly_done (Quit m) before u not_yet now) [
            | inl elaborates ↦ absurd (none-some u.0 (sym (elaborates_none m) ∙ elaborates))
            | inr over ↦
                let ready = quitter_ready before m u.0 (quit_forced m before lawful) (quitter_of m before u.0 over) in
                or_left (is_elaborated before u.0) (has_ended before u.0) (ready_elaborated before u.0 lawful.0 ready)
          ]
    ]

all_before : (m : Master) (before : List Event) (tasks : List TaskNo) → IsLawful (Quit m ∷ before)
    → list_all (is_done_activating (Quit m ∷ before)) tasks ≡ true → list_all (is_done_activating before) tasks ≡ true
all_before m before [] lawful all = refl
all_before m before (u ∷ rest) lawful all =
    let parts = and_parts (is_done_activating (Quit m ∷ before) u) (list_all (is_done_activating (Quit m ∷ before)) rest) all in
    and_from (is_done_activating before u) (list_all (is_done_activating before) rest) (done_before m before u lawful parts.0)
    (all_before m before rest lawful parts.1)

-- a step is given there
abbrev pub IsGiven : List Event → Row → ℕ → Type 0
IsGiven journal row key = (step : Event) × (step_at journal row key ≡ Some step)

pub given_before : (m : Master) (step : Event) (before : List Event) (p : ℕ) (e : Event) (start : Start) → IsLawful (Quit m ∷ before)
    → event_at before p ≡ Some e → start_in e ≡ Some start → step_at (Quit m ∷ before) Activating p ≡ Some step → IsGiven before Activating p
unfolding activated_at step_at
given_before m step before p e start lawful at says gives =
    let given : activated_at (Quit m ∷ before) p start ≡ Some step = rw says at (older_step (Quit m) step before Activating p e refl at gives) in
    let both =
    and_parts (is_pending (Quit m ∷ before) p start.by) (list_all (is_done_activating (Quit m ∷ before)) start.tasks)
    (if_some (is_pending (Quit m ∷ before) p start.by && list_all (is_done_activating (Quit m ∷ before)) start.tasks) _ step given).0 in
    let held = pending_before (Quit m) before p start.by both.0 in
    let done = all_before m before start.tasks lawful both.1 in (
      Activated p (not (list_any (λ (t : TaskNo). has_failed before t.0) start.tasks)),
      rw (at, says, held, done) refl,
    )
