-- The calls that stand in queues, one event more at a time.
use Rattle.std.proofs.Common.{◌≡◌, ℕ, suc, ◌≤◌, Bool, true, false, cond, ◌&&◌, None, List, [], ◌∷◌, ◌++◌, length, eqb}
use Rattle.std.proofs.Common.{refl, sym, ap, ◌∙◌, subst, arith, append-nil}
use Rattle.std.specs.Bool.{then_some}
use Rattle.std.specs.Option.{option_to_list}
use Rattle.std.specs.List.{All, filter}
use Rattle.std.proofs.lemmas.List.Elements.{filter-append, filter_agree, All-filter, All-append, All-weaker, All-cons, All-nil}
use Rattle.ada_events.specs.declared.event.Event.{Event}
use Rattle.ada_events.specs.declared.event.Event.TheVariants as kind
use Rattle.ada_events.specs.declared.names.Entry.{Entry}
use Rattle.ada_events.specs.Entries.{same_entry}
use Rattle.ada_events.specs.Search.{is_some_and, gathered}
use Rattle.ada_events.specs.Says.{call_in, released_in, meeting_in, completed_in}
use Rattle.ada_events.specs.Calls.{is_call_of, queue}
use Rattle.ada_events.specs.Lawful.{IsLawful}
use Rattle.ada_events.proofs.Positions.{event_at-other}
use Rattle.ada_laws.proofs.searching.Searching.{event_at-newest}
use Rattle.ada_step_laws.proofs.changing.QueueChanges.{filter_all}
use Rattle.ada_step_laws.proofs.changing.QueueKinds.{queue_called, queue_released, queue_met}
use Rattle.ada_records.proofs.turning.Requeuing.{ChangesQueues}
use Rattle.ada_records.proofs.turning.Requeuing.QueueChange.{Nothing}
use Rattle.ada_records.proofs.turning.QueueTurns.{queues_kept, queues_passed, queues_left, queues_completed, queues_elaborated, queues_halted}
use Rattle.ada_page.specs.Standing.{AreQueued, is_call_at}
use Rattle.ada_page.specs.internal.Queued.{stays, newest_call}

-- ---- the queue of an entry after an event

abbrev newest_of : Event → List Event → ℕ → Entry → List ℕ
newest_of event before task entry = option_to_list (then_some (is_call_of task entry event) (suc (length before)))

abbrev FollowsIn : Event → List Event → ℕ → Entry → Type 0
FollowsIn event before task entry =
    queue (event ∷ before) task entry ≡ filter (stays before event) (queue before task entry) ++ newest_of event before task entry

-- an event that makes no call, after which a queue is as it was
same_queue : (event : Event) (before : List Event) (task : ℕ) (entry : Entry) → call_in event ≡ None → ((p : ℕ) → stays before event p ≡ true)
    → queue (event ∷ before) task entry ≡ queue before task entry → FollowsIn event before task entry
unfolding is_call_of
same_queue event before task entry no_call all_stay same =
    rw no_call
    (same ∙ sym (append-nil (filter (stays before event) (queue before task entry))
    ∙ (filter_agree (stays before event) (λ _. true) all_stay (queue before task entry) ∙ filter_all (queue before task entry))))

-- an event that takes a call out
without : (event : Event) (before : List Event) (task : ℕ) (entry : Entry) → call_in event ≡ None
    → queue (event ∷ before) task entry ≡ filter (stays before event) (queue before task entry) → FollowsIn event before task entry
unfolding is_call_of
without event before task entry no_call same = rw no_call (same ∙ sym (append-nil (filter (stays before event) (queue before task entry))))

unchanged : (event : Event) (before : List Event) (task : ℕ) (entry : Entry) → call_in event ≡ None → ((p : ℕ) → stays before event p ≡ true)
    → ChangesQueues event before Nothing → FollowsIn event before task entry
unchanged event before task entry no_call all_stay same = same_queue event before task entry no_call all_stay (same task entry)

pub queue_follows : (event : Event) (before : List Event) (task : ℕ) (entry : Entry) → IsLawful (event ∷ before) → FollowsIn event before task entry
unfolding call_in released_in meeting_in completed_in is_call_of stays
queue_follows (kind.Called by callee named patience due) before task entry lawful =
    queue_called (kind.Called by callee named patience due) before task entry _ lawful refl
    ∙ ap (λ xs. xs ++ newest_of (kind.Called by callee named patience due) before task entry) (sym (filter_all (queue before task entry)))
queue_follows (kind.Met call wait) before task entry lawful =
    without (kind.Met call wait) before task entry refl (queue_met (kind.Met call wait) before task entry call wait lawful refl)
queue_follows (kind.Ended by call raised) before task entry lawful =
    without (kind.Ended by call raised) before task entry refl (queue_released (kind.Ended by call raised) before task entry call refl refl refl)
queue_follows (kind.Failed call) before task entry lawful =
    without (kind.Failed call) before task entry refl (queue_released (kind.Failed call) before task entry call refl refl refl)
queue_follows (kind.Cancelled call) before task entry lawful =
    without (kind.Cancelled call) before task entry refl (queue_released (kind.Cancelled call) before task entry call refl refl refl)
queue_follows (kind.Halted u) before task entry lawful =
    without (kind.Halted u) before task entry refl ((queues_halted (kind.Halted u) before u refl lawful).queues task entry)
queue_follows (kind.Passed wait way) before task entry lawful =
    let f = kind.Passed wait way in
    unchanged f before task entry refl (λ _. refl) (queues_passed f f before wait refl refl refl refl refl lawful)
queue_follows (kind.Woken pause) before task entry lawful =
    let f = kind.Woken pause in
    unchanged f before task entry refl (λ _. refl) (queues_passed f f before pause refl refl refl refl refl lawful)
queue_follows (kind.Activated start ok) before task entry lawful =
    let f = kind.Activated start ok in
    unchanged f before task entry refl (λ _. refl) (queues_passed f f before start refl refl refl refl refl lawful)
queue_follows (kind.Left close) before task entry lawful =
    unchanged (kind.Left close) before task entry refl (λ _. refl) (queues_left (kind.Left close) before close refl lawful)
queue_follows (kind.Completed by) before task entry lawful =
    unchanged (kind.Completed by) before task entry refl (λ _. refl) (queues_completed (kind.Completed by) before by refl lawful)
queue_follows (kind.Elaborated by ok) before task entry lawful =
    unchanged (kind.Elaborated by ok) before task entry refl (λ _. refl) (queues_elaborated (kind.Elaborated by ok) before by ok refl lawful)
queue_follows event before task entry lawful =
    unchanged event before task entry refl (λ _. refl) (queues_kept event event before refl refl refl refl refl lawful)

-- ---- all calls that stand in queues

-- two tests, of which either comes first
filter_swap : (p q : ℕ → Bool) (xs : List ℕ) → filter p (filter q xs) ≡ filter q (filter p xs)
filter_swap p q [] = refl
filter_swap p q (x ∷ xs) = by (p x) (q x) refl refl (filter_swap p q xs)
  where
    by : (a b : Bool) → p x ≡ a → q x ≡ b → filter p (filter q xs) ≡ filter q (filter p xs) → filter p (filter q (x ∷ xs)) ≡ filter q (filter p (x ∷ xs))
    by true true is other same = rw (is, other, is) (ap (λ ys. x ∷ ys) same)
    by true false is other same = rw (other, is, other) same
    by false true is other same = rw (other, is) same
    by false false is other same = rw (other, is) same

-- tests that agree up to a number keep the same of what is up to it
filter_within : (p q : ℕ → Bool) (n : ℕ) (xs : List ℕ) → ((x : ℕ) → x ≤ n → p x ≡ q x) → All (λ x. x ≤ n) xs → filter p xs ≡ filter q xs
filter_within p q n [] same within = refl
filter_within p q n (x ∷ xs) same within =
    rw (same x (within 0 x (omega arith)), filter_within p q n xs same (λ k d below. within (suc k) d (omega arith))) refl

-- an earlier event is the one that it was
same_call : (event : Event) (before : List Event) (task : ℕ) (entry : Entry) (p : ℕ) → p ≤ length before
    → is_call_at (event ∷ before) task entry p ≡ is_call_at before task entry p
same_call event before task entry p within =
    ap (λ o. is_some_and o (is_call_of task entry)) (event_at-other event before p (omega (arith, within)))

newest_kept : (event : Event) (before : List Event) (task : ℕ) (entry : Entry)
    → filter (is_call_at (event ∷ before) task entry) (newest_call event before) ≡ newest_of event before task entry
unfolding newest_call is_call_of call_in
newest_kept (kind.Called by callee named patience due) before task entry =
    rw (event_at-newest (kind.Called by callee named patience due) before)
    (one (eqb callee.0 task && same_entry named entry) (suc (length before)))
  where
    one : (b : Bool) (n : ℕ) → cond b (n ∷ []) [] ≡ option_to_list (then_some b n)
    one true n = refl
    one false n = refl
newest_kept event before task entry = refl

newest_within : (event : Event) (before : List Event) → All (λ p. p ≤ suc (length before)) (newest_call event before)
unfolding newest_call
newest_within (kind.Called by callee named patience due) before =
    All-cons (λ p. p ≤ suc (length before)) (suc (length before)) [] (omega arith) (All-nil (λ p. p ≤ suc (length before)))
newest_within event before = All-nil (λ p. p ≤ suc (length before))

pub queued_follow : (event : Event) (before : List Event) (calls more : List ℕ) → IsLawful (event ∷ before) → AreQueued before calls
    → more ≡ filter (stays before event) calls ++ newest_call event before → AreQueued (event ∷ before) more
queued_follow event before calls more lawful are is = subst (λ xs. AreQueued (event ∷ before) xs) (sym is) (record {
  within =
      All-append (λ p. p ≤ suc (length before)) (filter (stays before event) calls) (newest_call event before)
      (All-weaker (λ p. p ≤ length before) (λ p. p ≤ suc (length before)) (λ p below. omega arith) (filter (stays before event) calls)
      (All-filter (stays before event) (λ p. p ≤ length before) calls are.within))
      (newest_within event before);
  each = λ task entry.
      let now = is_call_at (event ∷ before) task entry in
      let was = is_call_at before task entry in
      filter-append now (filter (stays before event) calls) (newest_call event before)
      ∙ (ap (λ xs. xs ++ filter now (newest_call event before)) (filter_swap now (stays before event) calls
      ∙ ap (filter (stays before event)) (filter_within now was (length before) calls (same_call event before task entry) are.within ∙ are.each task entry))
      ∙ (ap (λ xs. filter (stays before event) (queue before task entry) ++ xs) (newest_kept event before task entry)
      ∙ sym (queue_follows event before task entry lawful)));
})

-- in an empty journal
pub none_queued : AreQueued [] []
unfolding queue gathered
none_queued = record { within = All-nil (λ p. p ≤ 0); each = λ task entry. refl }
