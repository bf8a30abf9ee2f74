-- Tables in which a call comes last at an entry, or a task's call leaves its queue.
use Rattle.std.proofs.Common.{◌≡◌, ◌≢◌, ℕ, suc, ◌<◌, Bool, true, false, cond, not, ◌&&◌, eqb, Some, IsSome, List, [], ◌∷◌, ◌++◌, length, map, refl, sym, ap}
use Rattle.std.proofs.Common.{◌∙◌, subst, arith, inl, inr, append-nil}
use Rattle.std.specs.Option.{option_to_list}
use Rattle.std.specs.Bool.{then_some}
use Rattle.std.specs.List.{All, Contains, filter}
use Rattle.std.proofs.lemmas.Bool.{cases_eq, and_parts, eq-eqb, eqb-true, or_cases, or_parts, true≢false, false≢true, false_from_ne_true}
use Rattle.std.proofs.lemmas.List.{get_or-set_same, get_or-set_other}
use Rattle.std.proofs.lemmas.List.Elements.{All-append, All-cons, All-filter, All-head, All-nil, All-tail, All-weaker}
use Rattle.std.proofs.lemmas.Option.{same_Some}
use Rattle.std.proofs.Math.ListN.{get_or-map}
use Rattle.ada_events.specs.declared.event.Event.{Event}
use Rattle.ada_events.specs.declared.names.Entry.{Entry}
use Rattle.ada_events.specs.Entries.{same_entry}
use Rattle.ada_events.specs.Limits.{slot_count}
use Rattle.ada_events.specs.Slots.{number_within}
use Rattle.ada_events.specs.Tasks.{task_count, families_of}
use Rattle.ada_events.specs.Phases.{is_suspended}
use Rattle.ada_events.specs.Calls.{queue}
use Rattle.ada_laws.proofs.searching.Gathering.{Contains-first, Contains-later}
use Rattle.ada_laws.proofs.queues.Queueing.{same_entry-same}
use Rattle.ada_laws.proofs.held.Suspending.{is_suspended-from}
use Rattle.ada_laws.proofs.searching.Searching.{eqb_swap}
use Rattle.ada_tables.specs.Dependents.{Facts}
use Rattle.ada_tables.specs.Queues.{QueuedCall, queue_at, is_by, waits_in, waits, with_last, without}
use Rattle.ada_tables.specs.Tables.{TableState, slot_at, HasEntry}
use Rattle.ada_tables.specs.Standing.{caller_of, AreQueued}
use Rattle.ada_tables.proofs.Linking.{any_place}
use Rattle.ada_records.specs.Facing.{HoldFacts, HoldQueues}
use Rattle.ada_records.proofs.turning.Requeuing.{without_caller, ComesLast, LeavesQueue}
use Rattle.ada_records.proofs.phase_changes.OnePhase.{caller_later}
use Rattle.ada_records.proofs.turning.QueueTurns.{queued_by}
use Rattle.ada_records.proofs.following.SlotsApart.{slot_within, slots_apart, slot_found, slots_held, same_entry-true}

-- who doesn't wait is in no queue
kept_queue : (u : ℕ) (calls : List QueuedCall) → waits_in u calls ≡ false → filter (λ c. not (is_by u c)) calls ≡ calls
kept_queue u [] none = refl
kept_queue u (c ∷ rest) none =
    let both = or_parts (is_by u c) (waits_in u rest) none in
    rw (both.0) (ap (λ (cs : List QueuedCall). c ∷ cs) (kept_queue u rest both.1))

pub without_none : (u : ℕ) (queues : List (List QueuedCall)) → waits u queues ≡ false → queues ≡ without u queues
without_none u [] none = refl
without_none u (calls ∷ rest) none =
    let both = or_parts (waits_in u calls) (waits u rest) none in
    sym (rw (kept_queue u calls both.0, sym (without_none u rest both.1)) refl)

-- a call that waits in a queue is one of its calls
waiting_call : (journal : List Event) (u : ℕ) (calls : List QueuedCall) → waits_in u calls ≡ true
    → All (λ (c : QueuedCall). caller_of journal c.call ≡ Some c.caller) calls → (p : ℕ) × Contains (map (λ (c : QueuedCall). c.call) calls) p
    × (caller_of journal p ≡ Some u)
waiting_call journal u [] waits made = absurd (false≢true waits)
waiting_call journal u (c ∷ rest) waits made =
    elim (or_cases (is_by u c) (waits_in u rest) waits) [
      | inl here ↦ (
        c.call,
        Contains-first c.call (map (λ (c : QueuedCall). c.call) rest),
        All-head (λ (c : QueuedCall). caller_of journal c.call ≡ Some c.caller) c rest made ∙ ap Some (eqb-true c.caller u here),
      )
      | inr later ↦
          let (p, has, by) = waiting_call journal u rest later (All-tail (λ (c : QueuedCall). caller_of journal c.call ≡ Some c.caller) c rest made) in
          (p, Contains-later c.call p (map (λ (c : QueuedCall). c.call) rest) has, by)
    ]

-- a task that waits in a queue of the tables is suspended
waiting_held : (tables : TableState) (journal : List Event) (u task : ℕ) (entry : Entry)
    → AreQueued journal task entry (queue_at tables.queues (slot_at tables.tasks task entry))
    → waits_in u (queue_at tables.queues (slot_at tables.tasks task entry)) ≡ true → is_suspended journal u ≡ true
waiting_held tables journal u task entry are waiting =
    let (p, has, by) = waiting_call journal u (queue_at tables.queues (slot_at tables.tasks task entry)) waiting are.callers in
    let (v, caller, held) = queued_by journal task entry p (subst (λ (ps : List ℕ). Contains ps p) are.positions has) in
    let one : v ≡ u = same_Some v u (sym caller ∙ by) in
    subst (λ (n : ℕ). is_suspended journal n ≡ true) one (is_suspended-from journal v p held)

-- who isn't suspended waits in no queue of the tables
pub idle_caller : (tables : TableState) (journal : List Event) (u : ℕ) → HoldFacts tables.tasks journal → HoldQueues tables journal
    → length tables.queues ≡ slot_count journal → is_suspended journal u ≡ false → waits u tables.queues ≡ false
idle_caller tables journal u hold queues slots free =
    false_from_ne_true (waits u tables.queues) (λ waiting.
    let (slot, within, there) = any_place (waits_in u) tables.queues [] waiting in
    let found = slot_found tables.tasks slot (omega (arith, within, slots, slots_held tables.tasks journal hold)) in
    let held = waiting_held tables journal u found.task found.entry (queues found.task found.entry found.has)
    (subst (λ (n : ℕ). waits_in u (queue_at tables.queues n) ≡ true) (sym found.at) there) in
    true≢false (sym held ∙ free))

-- the entry of a call is one that the tables have
pub called_entry : (tasks : List Facts) (journal : List Event) (callee : ℕ) (entry : Entry) → HoldFacts tasks journal → callee < task_count journal
    → IsSome (number_within (families_of journal callee) entry) → HasEntry tasks callee entry
called_entry tasks journal callee entry hold exists declares = record {
  known = omega (arith, exists, hold.many);
  declares = subst (λ (f : Facts). IsSome (number_within f.families entry)) (sym (hold.facts callee exists)) declares;
}

taken_positions : (journal : List Event) (u : ℕ) (calls : List QueuedCall) → All (λ (c : QueuedCall). caller_of journal c.call ≡ Some c.caller) calls
    → map (λ (c : QueuedCall). c.call) (filter (λ c. not (is_by u c)) calls) ≡ without_caller journal u (map (λ (c : QueuedCall). c.call) calls)
taken_positions journal u [] made = refl
taken_positions journal u (c ∷ rest) made =
    let here = All-head (λ (c : QueuedCall). caller_of journal c.call ≡ Some c.caller) c rest made in
    let later = taken_positions journal u rest (All-tail (λ (c : QueuedCall). caller_of journal c.call ≡ Some c.caller) c rest made) in
    rw (here, eqb_swap u c.caller) (by_test (eqb c.caller u) later)
  where
    by_test : (b : Bool) → map (λ (c : QueuedCall). c.call) (filter (λ c. not (is_by u c)) rest)
        ≡ without_caller journal u (map (λ (c : QueuedCall). c.call) rest)
        → map (λ (c : QueuedCall). c.call) (cond (not b) (c ∷ filter (λ c. not (is_by u c)) rest) (filter (λ c. not (is_by u c)) rest))
        ≡ cond (not b) (c.call ∷ without_caller journal u (map (λ (c : QueuedCall). c.call) rest))
        (without_caller journal u (map (λ (c : QueuedCall). c.call) rest))
    by_test true later = later
    by_test false later = ap (λ (ps : List ℕ). c.call ∷ ps) later

callers_later : (event : Event) (before : List Event) (calls : List QueuedCall) → All (λ (c : QueuedCall). caller_of before c.call ≡ Some c.caller) calls
    → All (λ (c : QueuedCall). caller_of (event ∷ before) c.call ≡ Some c.caller) calls
callers_later event before calls made =
    All-weaker (λ (c : QueuedCall). caller_of before c.call ≡ Some c.caller) (λ (c : QueuedCall). caller_of (event ∷ before) c.call ≡ Some c.caller)
    (λ c was. caller_later event before c.call c.caller was) calls made

-- a task's call leaves
pub queues_left_by : (event : Event) (before : List Event) (old new : TableState) (u : ℕ) → HoldQueues old before → LeavesQueue event before u
    → new ≡ record old { queues = without u old.queues; spare = new.spare } → HoldQueues new (event ∷ before)
queues_left_by event before old new u queues leaves is task entry has =
    let was = queues task entry (subst (λ (s : TableState). HasEntry s.tasks task entry) is has) in
    let calls = queue_at old.queues (slot_at old.tasks task entry) in
    let here : queue_at (without u old.queues) (slot_at old.tasks task entry) ≡ filter (λ c. not (is_by u c)) calls =
    get_or-map (filter (λ c. not (is_by u c))) old.queues (slot_at old.tasks task entry) [] in
    let are : AreQueued (event ∷ before) task entry (filter (λ c. not (is_by u c)) calls) =
    record {
      positions =
          taken_positions before u calls was.callers
          ∙ ap (without_caller before u) was.positions
          ∙ sym (leaves.queues task entry);
      callers =
          callers_later event before (filter (λ c. not (is_by u c)) calls)
          (All-filter (λ c. not (is_by u c)) (λ (c : QueuedCall). caller_of before c.call ≡ Some c.caller) calls was.callers);
    } in
    subst (λ (s : TableState). AreQueued (event ∷ before) task entry (queue_at s.queues (slot_at s.tasks task entry))) (sym is)
    (subst (AreQueued (event ∷ before) task entry) (sym here) are)

-- nothing is changed
pub queues_same : (event : Event) (before : List Event) (tables : TableState) → HoldQueues tables before
    → ((task : ℕ) (entry : Entry) → queue (event ∷ before) task entry ≡ queue before task entry) → HoldQueues tables (event ∷ before)
queues_same event before tables queues same task entry has =
    let was = queues task entry has in
    let calls = queue_at tables.queues (slot_at tables.tasks task entry) in
    record { positions = was.positions ∙ sym (same task entry); callers = callers_later event before calls was.callers }

map_last : (calls : List QueuedCall) (c : QueuedCall)
    → map (λ (c : QueuedCall). c.call) (calls ++ c ∷ []) ≡ map (λ (c : QueuedCall). c.call) calls ++ c.call ∷ []
map_last [] c = refl
map_last (x ∷ rest) c = ap (λ (ps : List ℕ). x.call ∷ ps) (map_last rest c)

-- a call comes last at its entry
pub queues_joined : (event : Event) (before : List Event) (old new : TableState) (by callee : ℕ) (entry : Entry) (call spare : ℕ) → HoldFacts old.tasks before
    → HoldQueues old before → length old.queues ≡ slot_count before → ComesLast event before by callee entry → call ≡ suc (length before)
    → new ≡ record old { queues = with_last (slot_at old.tasks callee entry) (record { call = call; caller = by }) old.queues; spare = spare }
    → HoldQueues new (event ∷ before)
queues_joined event before old new by callee entry call spare hold queues slots last place is task other has =
    subst (λ (s : TableState). AreQueued (event ∷ before) task other (queue_at s.queues (slot_at s.tasks task other))) (sym is)
    (elim (cases_eq (slot_at old.tasks task other) slot) [
      | inl same ↦ subst (AreQueued (event ∷ before) task other)
          (sym (ap (queue_at (with_last slot added old.queues)) same ∙ get_or-set_same old.queues slot (queue_at old.queues slot ++ added ∷ []) [] within))
          (joined same)
      | inr differs ↦ subst (AreQueued (event ∷ before) task other)
          (sym (get_or-set_other old.queues slot (slot_at old.tasks task other) (queue_at old.queues slot ++ added ∷ []) [] differs)) (beside differs)
    ])
  where
    slot : ℕ
    slot = slot_at old.tasks callee entry

    added : QueuedCall
    added = record { call = call; caller = by }

    own : HasEntry old.tasks callee entry
    own = called_entry old.tasks before callee entry hold last.called last.declares

    here : HasEntry old.tasks task other
    here = subst (λ (s : TableState). HasEntry s.tasks task other) is has

    within : slot < length old.queues
    within = omega (arith, slot_within old.tasks callee entry own, slots, slots_held old.tasks before hold)

    was : AreQueued before task other (queue_at old.queues (slot_at old.tasks task other))
    was = queues task other here

    by_test : (b : Bool) → (eqb callee task && same_entry entry other) ≡ b
        → queue (event ∷ before) task other ≡ queue before task other ++ option_to_list (then_some b (suc (length before)))
    by_test b test = last.queues task other ∙ ap (λ (t : Bool). queue before task other ++ option_to_list (then_some t (suc (length before)))) test

    joined : slot_at old.tasks task other ≡ slot → AreQueued (event ∷ before) task other (queue_at old.queues slot ++ added ∷ [])
    joined same =
        let one = slots_apart old.tasks task callee other entry here own same in
        let test : (eqb callee task && same_entry entry other) ≡ true =
        rw (eq-eqb callee task (sym one.0)) (ap (same_entry entry) one.1 ∙ same_entry-same entry) in
        let there = subst (λ (n : ℕ). AreQueued before task other (queue_at old.queues n)) same was in
        record {
          positions =
              map_last (queue_at old.queues slot) added
              ∙ ap (λ (ps : List ℕ). ps ++ call ∷ []) there.positions
              ∙ ap (λ (n : ℕ). queue before task other ++ n ∷ []) place
              ∙ sym (by_test true test);
          callers =
              All-append (λ (c : QueuedCall). caller_of (event ∷ before) c.call ≡ Some c.caller) (queue_at old.queues slot) (added ∷ [])
              (callers_later event before (queue_at old.queues slot) there.callers)
              (All-cons (λ (c : QueuedCall). caller_of (event ∷ before) c.call ≡ Some c.caller) added [] (ap (caller_of (event ∷ before)) place ∙ last.caller)
              (All-nil (λ (c : QueuedCall). caller_of (event ∷ before) c.call ≡ Some c.caller)));
        }

    beside : slot_at old.tasks task other ≢ slot → AreQueued (event ∷ before) task other (queue_at old.queues (slot_at old.tasks task other))
    beside differs =
        let test : (eqb callee task && same_entry entry other) ≡ false =
        false_from_ne_true (eqb callee task && same_entry entry other) (λ both.
        let parts = and_parts (eqb callee task) (same_entry entry other) both in
        differs (sym (ap (λ (n : ℕ). slot_at old.tasks n entry) (eqb-true callee task parts.0)
        ∙ ap (slot_at old.tasks task) (same_entry-true entry other parts.1)))) in
        record {
          positions = was.positions ∙ sym (by_test false test ∙ append-nil (queue before task other));
          callers = callers_later event before (queue_at old.queues (slot_at old.tasks task other)) was.callers;
        }
