-- What each kind of event changes in queues.
use Rattle.std.proofs.Common.{◌≡◌, ℕ, Bool, true, false, not, eqb, Option, Some, None, IsSome, List, [], ◌∷◌, refl, sym, ap, ◌∙◌, subst, inl, inr}
use Rattle.std.specs.Option.{option_and_then, option_map}
use Rattle.std.specs.List.{filter, Contains}
use Rattle.std.proofs.lemmas.Bool.{cases_Bool, cases_eq, eq-eqb, ne_eqb, true≢false}
use Rattle.std.proofs.lemmas.Option.{none-some}
use Rattle.ada_events.specs.declared.event.Event.{Event}
use Rattle.ada_events.specs.declared.event.Event.TheVariants as kind
use Rattle.ada_events.specs.declared.names.Entry.{Entry}
use Rattle.ada_events.specs.declared.names.TaskNo.{TaskNo}
use Rattle.ada_events.specs.declared.request.Request.{Request}
use Rattle.ada_events.specs.declared.request.Request.TheVariants as request
use Rattle.ada_events.specs.Search.{is_number}
use Rattle.ada_events.specs.Says.{Call, call_in, call_at, meeting_in, released_in, completed_in, left_in}
use Rattle.ada_events.specs.Slots.{number_within}
use Rattle.ada_events.specs.Tasks.{families_of}
use Rattle.ada_events.specs.Phases.{is_suspended}
use Rattle.ada_events.specs.Calls.{is_met, queue}
use Rattle.ada_events.specs.Asks.{asker, asked_event}
use Rattle.ada_events.specs.Lawful.{IsLawful, MayFollow}
use Rattle.ada_events.specs.Refusals.{refusal}
use Rattle.ada_laws.specs.Suspension.{IsSuspendedAt}
use Rattle.ada_laws.proofs.asking.Accepting.{asker_runs, running_free}
use Rattle.ada_laws.proofs.searching.Gathering.{Contains-first, Contains-later}
use Rattle.ada_laws.proofs.queues.Queueing.{queue-found, open_call_suspends}
use Rattle.ada_laws.proofs.forced.Rows.{IsRow, forced-row}
use Rattle.ada_laws.proofs.forced.Rows.IsRow.{halts}
use Rattle.ada_laws.proofs.searching.Saying.{held_in-call}
use Rattle.ada_laws.proofs.searching.Searching.{event_at-newest}
use Rattle.ada_laws.proofs.held.Suspending.{is_suspended-at, is_suspended-from, suspended_exists, suspended_once}
use Rattle.ada_step_laws.proofs.changing.Holding.{holder_ran}
use Rattle.ada_step_laws.proofs.changing.KeptQueues.{others_keep_queues}
use Rattle.ada_step_laws.proofs.changing.QueueKinds.{queue_called, queue_released, queue_met, queue_completed}
use Rattle.ada_step_laws.proofs.changing.Saying.{held_apart}
use Rattle.ada_records.proofs.recording.TaskEnds.{completion_exists}
use Rattle.ada_tables.specs.Standing.{caller_of}
use Rattle.ada_records.specs.TableEvents.{passing_in}
use Rattle.ada_records.proofs.turning.Requeuing.{without_caller, ComesLast, ChangesQueues}
use Rattle.ada_records.proofs.turning.Requeuing.QueueChange.{Nothing, Joins, Leaves}
use Rattle.ada_records.proofs.following.Empty.{is_some}
use Rattle.ada_records.proofs.following.Entries.{new_number, declarer_exists}
use Rattle.ada_records.proofs.phase_changes.OnePhaseKinds.{completes_only, completed_queue, filter_absent, not_in_queue}
use Rattle.ada_records.proofs.turning.ReleasedKinds.{plainly_uncalled, is_leaving, closing_is}

-- an event that makes no call, releases nothing, meets and completes nobody
pub queues_kept : (event f : Event) (before : List Event) → event ≡ f → call_in f ≡ None → released_in f ≡ None → meeting_in f ≡ None → completed_in f ≡ None
    → IsLawful (event ∷ before) → ChangesQueues event before Nothing
queues_kept event f before is calls frees meets completes lawful = λ task entry.
    others_keep_queues event before task entry lawful (ap call_in is ∙ calls) (ap released_in is ∙ frees) (ap meeting_in is ∙ meets)
    (ap completed_in is ∙ completes)

-- the release of something that isn't a call
uncalled_released : (event : Event) (before : List Event) (p : ℕ) → released_in event ≡ Some p → meeting_in event ≡ None → call_in event ≡ None
    → call_at before p ≡ None → ChangesQueues event before Nothing
uncalled_released event before p frees meets calls uncalled = λ task entry.
    queue_released event before task entry p frees meets calls ∙ filter_absent p (queue before task entry) (not_in_queue before task p entry uncalled)

pub queues_passed : (event f : Event) (before : List Event) (p : ℕ) → event ≡ f → passing_in f ≡ Some p → released_in f ≡ Some p → meeting_in f ≡ None
    → call_in f ≡ None → IsLawful (event ∷ before) → ChangesQueues event before Nothing
queues_passed event f before p is plain frees meets calls lawful =
    uncalled_released event before p (ap released_in is ∙ frees) (ap meeting_in is ∙ meets) (ap call_in is ∙ calls)
    (plainly_uncalled event before p lawful (ap passing_in is ∙ plain))

closed_calls_none : (by : TaskNo) (block : ℕ) → call_in (kind.Closed by block) ≡ None
unfolding call_in
closed_calls_none by block = refl

pub queues_left : (event : Event) (before : List Event) (close : ℕ) → event ≡ kind.Left close → IsLawful (event ∷ before) → ChangesQueues event before Nothing
unfolding released_in meeting_in call_in left_in
queues_left event before close is lawful =
    let leaving = is_leaving event before close lawful.1 (ap left_in is) in
    uncalled_released event before close (ap released_in is) (ap meeting_in is) (ap call_in is)
    (ap (option_and_then call_in) (leaving.stands ∙ ap Some (closing_is leaving.event leaving.closing leaving.says))
    ∙ closed_calls_none (record { 0 = leaving.closing.by }) leaving.closing.block)

-- who asks to complete, or to end its activation
abbrev ends_itself : Event → Option ℕ
ends_itself (kind.Completed by) = Some by.0
ends_itself (kind.Elaborated by ok) = Some by.0
ends_itself _ = None

asked_end : (journal : List Event) (r : Request) (task : ℕ) → ends_itself (asked_event journal r) ≡ Some task → asker r ≡ Some task
unfolding asked_event asker
asked_end journal (request.Complete by) task says = says
asked_end journal (request.Elaborated by ok) task says = says
asked_end journal _ task says = absurd (none-some task says)

row_ends_none : (journal : List Event) (event : Event) → IsRow journal event → ends_itself event ≡ None
row_ends_none journal event (halts u below halt) = refl
row_ends_none journal event _ = refl

ends_free : (event : Event) (before : List Event) (task : ℕ) → IsLawful (event ∷ before) → ends_itself event ≡ Some task → is_suspended before task ≡ false
ends_free event before task lawful says = by_row lawful.1
  where
    by_row : MayFollow refusal before event → is_suspended before task ≡ false
    by_row (inl forces) = absurd (none-some task (sym (row_ends_none before event (forced-row before event forces)) ∙ says))
    by_row (inr asked) =
        running_free before task (asker_runs before asked.request task asked.accepted
        (asked_end before asked.request task (ap ends_itself (sym asked.becomes) ∙ says)))

free_completion : (event : Event) (before : List Event) (task : ℕ) → IsLawful (event ∷ before) → completed_in event ≡ Some task
    → is_suspended before task ≡ false → ChangesQueues event before Nothing
free_completion event before task lawful completes free = λ other entry.
    completed_queue event before task other entry lawful completes free (completes_only event task completes)

pub queues_completed : (event : Event) (before : List Event) (by : TaskNo) → event ≡ kind.Completed by → IsLawful (event ∷ before)
    → ChangesQueues event before Nothing
unfolding completed_in
queues_completed event before by is lawful =
    free_completion event before by.0 lawful (ap completed_in is) (ends_free event before by.0 lawful (ap ends_itself is))

pub queues_elaborated : (event : Event) (before : List Event) (by : TaskNo) (ok : Bool) → event ≡ kind.Elaborated by ok → IsLawful (event ∷ before)
    → ChangesQueues event before Nothing
unfolding completed_in call_in released_in meeting_in
queues_elaborated event before by true is lawful = queues_kept event (kind.Elaborated by true) before is refl refl refl refl lawful
queues_elaborated event before by false is lawful =
    free_completion event before by.0 lawful (ap completed_in is) (ends_free event before by.0 lawful (ap ends_itself is))

-- tests that agree on the elements of a list keep the same of it
filter_alike : (f g : ℕ → Bool) (xs : List ℕ) → ((x : ℕ) → Contains xs x → f x ≡ g x) → filter f xs ≡ filter g xs
filter_alike f g [] same = refl
filter_alike f g (x ∷ xs) same =
    rw (same x (Contains-first x xs), filter_alike f g xs (λ y has. same y (Contains-later x y xs has))) refl

filter_whole : (f : ℕ → Bool) (xs : List ℕ) → ((x : ℕ) → Contains xs x → f x ≡ true) → filter f xs ≡ xs
filter_whole f [] all = refl
filter_whole f (x ∷ xs) all =
    rw (all x (Contains-first x xs), filter_whole f xs (λ y has. all y (Contains-later x y xs has))) refl

-- who made a queued call is suspended at it
pub queued_by : (journal : List Event) (task : ℕ) (entry : Entry) (p : ℕ) → Contains (queue journal task entry) p → (u : ℕ) × (caller_of journal p ≡ Some u)
    × IsSuspendedAt journal u p
queued_by journal task entry p has =
    let queued = queue-found journal task entry p has in (
      queued.call.by,
      ap (option_map (λ (c : Call). c.by)) (ap (option_and_then call_in) queued.opened.stands.stands ∙ queued.opened.stands.says),
      open_call_suspends journal queued.call p queued.opened,
    )

-- of what a task is suspended at, and of its calls, the same is queued
same_taken : (before : List Event) (u p : ℕ) (task : ℕ) (entry : Entry) → IsLawful before → IsSuspendedAt before u p
    → filter (λ q. not (eqb q p)) (queue before task entry) ≡ without_caller before u (queue before task entry)
same_taken before u p task entry lawful held =
    filter_alike (λ q. not (eqb q p)) (λ q. not (is_number u (caller_of before q))) (queue before task entry) (λ q has.
    let (v, caller, there) = queued_by before task entry q has in
    ap not (by_caller q v there ∙ ap (is_number u) (sym caller)))
  where
    by_caller : (q v : ℕ) → IsSuspendedAt before v q → eqb q p ≡ eqb u v
    by_caller q v there =
        elim (cases_eq u v) [
          | inl same ↦
              eq-eqb q p (suspended_once before u q p lawful (subst (λ (n : ℕ). IsSuspendedAt before n q) (sym same) there) held)
              ∙ sym (eq-eqb u v same)
          | inr differs ↦
              ne_eqb q p (λ same. differs (held_apart before u v p held (subst (λ (n : ℕ). IsSuspendedAt before v n) same there)))
              ∙ sym (ne_eqb u v differs)
        ]

-- a call that ends leaves its queue, if it is still there
pub queues_ended : (event f : Event) (before : List Event) (task : TaskNo) (p : ℕ) → event ≡ f → released_in f ≡ Some p → meeting_in f ≡ None → call_in f ≡ None
    → IsSuspendedAt before task.0 p → IsLawful (event ∷ before) → ChangesQueues event before (Leaves task)
queues_ended event f before task p is frees meets calls held lawful = record {
  exists = suspended_exists before task.0 p lawful.0 held;
  queues = λ other entry.
      queue_released event before other entry p (ap released_in is ∙ frees) (ap meeting_in is ∙ meets) (ap call_in is ∙ calls)
      ∙ same_taken before task.0 p other entry lawful.0 held;
}

-- a call with which a rendezvous began has left its queue, so its end takes none out
pub queues_served : (event f : Event) (before : List Event) (p : ℕ) → event ≡ f → released_in f ≡ Some p → meeting_in f ≡ None → call_in f ≡ None
    → is_met before p ≡ true → ChangesQueues event before Nothing
queues_served event f before p is frees meets calls met = λ other entry.
    queue_released event before other entry p (ap released_in is ∙ frees) (ap meeting_in is ∙ meets) (ap call_in is ∙ calls)
    ∙ filter_whole (λ q. not (eqb q p)) (queue before other entry) (λ q has.
    ap not (ne_eqb q p (λ same. true≢false (sym met ∙ ap (is_met before) (sym same) ∙ (queue-found before other entry q has).unmet))))

-- a call whose rendezvous begins leaves its queue
pub queues_met : (event : Event) (before : List Event) (task : TaskNo) (call wait : ℕ) → event ≡ kind.Met call wait → IsSuspendedAt before task.0 call
    → IsLawful (event ∷ before) → ChangesQueues event before (Leaves task)
queues_met event before task call wait is held lawful = record {
  exists = suspended_exists before task.0 call lawful.0 held;
  queues = λ other entry. queue_met event before other entry call wait lawful is ∙ same_taken before task.0 call other entry lawful.0 held;
}

-- who isn't suspended has no queued call
none_taken : (before : List Event) (u : ℕ) (task : ℕ) (entry : Entry) → is_suspended before u ≡ false
    → without_caller before u (queue before task entry) ≡ queue before task entry
none_taken before u task entry free =
    filter_whole (λ q. not (is_number u (caller_of before q))) (queue before task entry) (λ q has.
    let (v, caller, there) = queued_by before task entry q has in
    ap (λ (o : Option ℕ). not (is_number u o)) caller
    ∙ ap not (ne_eqb u v (λ same. true≢false (sym (is_suspended-from before u q (subst (λ (n : ℕ). IsSuspendedAt before n q) (sym same) there)) ∙ free))))

-- the call of a task that is halted leaves its queue
pub queues_halted : (event : Event) (before : List Event) (task : TaskNo) → event ≡ kind.Halted task → IsLawful (event ∷ before)
    → ChangesQueues event before (Leaves task)
unfolding completed_in
queues_halted event before task is lawful = record {
  exists = completion_exists event before task lawful (inr is);
  queues = λ other entry.
      elim (cases_Bool (is_suspended before task.0)) [
        | inl suspended ↦
            let (p, held) = is_suspended-at before task.0 suspended in
            queue_completed event before other entry task.0 p lawful.0 (ap completed_in is) held ∙ same_taken before task.0 p other entry lawful.0 held
        | inr free ↦ free_completion event before task.0 lawful (ap completed_in is) free other entry ∙ sym (none_taken before task.0 other entry free)
      ];
}

-- a call comes last at its entry
pub queues_called : (event : Event) (before : List Event) (call : Call) (by callee : TaskNo) (entry : Entry) → call_in event ≡ Some call → call.by ≡ by.0
    → call.callee ≡ callee.0 → call.entry ≡ entry → IsLawful (event ∷ before) → ChangesQueues event before (Joins by callee entry)
queues_called event before call by callee entry says made called named lawful =
    let ran = holder_ran event before call.by lawful (held_in-call event call says) in
    let (n, number) = new_number event before call lawful.1 says in
    let exists = declarer_exists before call.callee call.entry n number in
    let calls : IsSome (call_in event) = subst (λ (o : Option Call). IsSome o) (sym says) refl in
    let last : ComesLast event before call.by call.callee call.entry =
    record {
      exists = ran.0;
      free = ran.2;
      called = exists;
      declares = is_some (number_within (families_of before call.callee) call.entry) n number;
      calls = calls;
      caller = ap (option_map (λ (c : Call). c.by)) (ap (option_and_then call_in) (event_at-newest event before) ∙ says);
      queues = λ task other. queue_called event before task other call lawful says;
    } in
    subst (λ (e : Entry). ComesLast event before by.0 callee.0 e) named
    (subst (λ (n : ℕ). ComesLast event before by.0 n call.entry) called (subst (λ (n : ℕ). ComesLast event before n call.callee call.entry) made last))
