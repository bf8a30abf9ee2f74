-- The queues of a task are empty in the tables exactly where they are in the journal.
use Rattle.std.proofs.Common.{◌≡◌, ℕ, ◌+◌, ◌<◌, Bool, true, false, not, ◌&&◌, eqb, Option, Some, None, IsSome, List, [], ◌∷◌, map, length, refl, sym, ap, ◌∙◌}
use Rattle.std.proofs.Common.{subst, arith, inl, inr}
use Rattle.std.specs.Option.{unwrap_or}
use Rattle.std.specs.List.{Contains}
use Rattle.std.proofs.lemmas.Bool.{and_parts, and_from, eqb-true, eq-eqb, not-true, not_from_false, cases_Bool, false_from_ne_true}
use Rattle.std.proofs.lemmas.Option.{none-some, same_Some}
use Rattle.ada_events.specs.declared.event.Event.{Event}
use Rattle.ada_events.specs.declared.names.Entry.{Entry}
use Rattle.ada_events.specs.Entries.{entries_in}
use Rattle.ada_events.specs.Search.{any_event, event_at, is_some_and}
use Rattle.ada_events.specs.Says.{Call, call_in}
use Rattle.ada_events.specs.Tasks.{task_count, families_of}
use Rattle.ada_events.specs.Calls.{is_met, is_open_at, is_queued_at, queue}
use Rattle.ada_events.specs.Termination.{has_empty_queues}
use Rattle.ada_events.specs.Slots.{number_within}
use Rattle.ada_events.specs.Lawful.{IsLawful}
use Rattle.ada_laws.specs.Calls.{IsOpenCallAt}
use Rattle.ada_laws.proofs.searching.Searching.{any_event-found, any_event-from, all_below-fails, all_below-holds, option_map_or-true}
use Rattle.ada_laws.proofs.searching.Gathering.{Contains-first}
use Rattle.ada_laws.proofs.entries.SlotLaws.{number_within-below}
use Rattle.ada_laws.proofs.queues.Queueing.{is_open_at-from, is_open_at-call, queue-from, queue-found}
use Rattle.ada_tables.specs.Dependents.{Facts, task_at}
use Rattle.ada_tables.specs.Queues.{QueuedCall, queue_at}
use Rattle.ada_tables.specs.Tables.{TableState, declared, slots_before, slot_at, has_no_calls, HasEntry}
use Rattle.ada_records.specs.Facing.{HoldFacts, HoldQueues}
use Rattle.ada_records.proofs.following.Entries.{numbered, call_names_entry}

pub is_some : (o : Option ℕ) (n : ℕ) → o ≡ Some n → IsSome o
is_some None n is = absurd (none-some n is)
is_some (Some m) n is = refl

pub unwrapped : (o : Option ℕ) (n : ℕ) → o ≡ Some n → unwrap_or o 0 ≡ n
unwrapped o n is = rw is refl

-- of the tables' facts
number_in : (tasks : List Facts) (journal : List Event) (task : ℕ) (e : Entry) (n : ℕ) → HoldFacts tasks journal → task < task_count journal
    → number_within (families_of journal task) e ≡ Some n → number_within (task_at tasks task).families e ≡ Some n
number_in tasks journal task e n hold below number =
    ap (λ (f : Facts). number_within f.families e) (hold.facts task below) ∙ number

has_entry : (tasks : List Facts) (journal : List Event) (task : ℕ) (e : Entry) (n : ℕ) → HoldFacts tasks journal → task < task_count journal
    → number_within (families_of journal task) e ≡ Some n → HasEntry tasks task e
has_entry tasks journal task e n hold below number = record {
  known = omega (arith, hold.many, below);
  declares = is_some (number_within (task_at tasks task).families e) n (number_in tasks journal task e n hold below number);
}

-- the queue at the slot of an entry, of that number in its task
queue_is : (tables : TableState) (journal : List Event) (task : ℕ) (e : Entry) (n : ℕ) → HoldFacts tables.tasks journal → HoldQueues tables journal
    → task < task_count journal → number_within (families_of journal task) e ≡ Some n
    → map (λ (c : QueuedCall). c.call) (queue_at tables.queues (slots_before (declared tables.tasks) task + n)) ≡ queue journal task e
queue_is tables journal task e n hold queues below number =
    let slot : slot_at tables.tasks task e ≡ slots_before (declared tables.tasks) task + n =
    ap (λ k. slots_before (declared tables.tasks) task + k)
    (unwrapped (number_within (task_at tables.tasks task).families e) n (number_in tables.tasks journal task e n hold below number)) in
    ap (λ k. map (λ (c : QueuedCall). c.call) (queue_at tables.queues k)) (sym slot)
    ∙ (queues task e (has_entry tables.tasks journal task e n hold below number)).positions

no_call : (xs : List QueuedCall) (ps : List ℕ) (p : ℕ) → map (λ (c : QueuedCall). c.call) xs ≡ ps → length xs ≡ 0 → Contains ps p → ⊥
no_call [] ps p same none has =
    let (k, below, is) = subst (λ (qs : List ℕ). Contains qs p) (sym same) has in
    omega (arith, below)
no_call (x ∷ xs) ps p same none has = absurd (omega (arith, none))

some_call : (xs : List QueuedCall) (ps : List ℕ) → map (λ (c : QueuedCall). c.call) xs ≡ ps → eqb (length xs) 0 ≡ false → (p : ℕ) × Contains ps p
some_call [] ps same some = absurd (cc)
some_call (x ∷ xs) ps same some = (x.call, subst (λ (qs : List ℕ). Contains qs x.call) same (Contains-first x.call (map (λ (c : QueuedCall). c.call) xs)))

module _ (tables : TableState) (journal : List Event) (lawful : IsLawful journal) (hold : HoldFacts tables.tasks journal)
    (queues : HoldQueues tables journal) where
  abbrev calls_of : ℕ → Event → Bool
  calls_of task event = is_some_and (call_in event) (λ (c : Call). eqb c.callee task)

  -- a queued call stands in a queue of the tables
  no_calls_of : (p : ℕ) (event : Event) (c : Call) → event_at journal p ≡ Some event → call_in event ≡ Some c → IsOpenCallAt journal c p
      → is_met journal p ≡ false → c.callee < task_count journal → has_no_calls tables.tasks tables.queues c.callee ≡ true → ⊥
  no_calls_of p event c at says opened unmet below none =
      let (n, number) = call_names_entry journal p event c lawful at says in
      let inside : n < entries_in (task_at tables.tasks c.callee).families = number_within-below (task_at tables.tasks c.callee).families c.entry n
      (number_in tables.tasks journal c.callee c.entry n hold below number) in
      let empty = all_below-holds (λ entry. eqb (length (queue_at tables.queues (slots_before (declared tables.tasks) c.callee + entry))) 0)
      (entries_in (task_at tables.tasks c.callee).families) n none inside in
      no_call (queue_at tables.queues (slots_before (declared tables.tasks) c.callee + n)) (queue journal c.callee c.entry) p
      (queue_is tables journal c.callee c.entry n hold queues below number)
      (eqb-true (length (queue_at tables.queues (slots_before (declared tables.tasks) c.callee + n))) 0 empty)
      (queue-from journal c p opened unmet)

  not_in_tables : (task : ℕ) → task < task_count journal → has_no_calls tables.tasks tables.queues task ≡ true
      → any_event (λ p e. calls_of task e && is_queued_at journal p e) journal ≡ true → ⊥
  unfolding is_queued_at
  not_in_tables task below none some =
      let (p, e, at, passes) = any_event-found (λ p e. calls_of task e && is_queued_at journal p e) journal some in
      let both = and_parts (calls_of task e) (is_queued_at journal p e) passes in
      let parts = and_parts (is_open_at journal p e) (not (is_met journal p)) both.1 in
      let (c, says, opened) = is_open_at-call journal p e at parts.0 in
      let (d, calls, named) = option_map_or-true (λ (c : Call). eqb c.callee task) (call_in e) both.0 in
      let same : c.callee ≡ task = ap (λ (x : Call). x.callee) (same_Some c d (sym says ∙ calls)) ∙ eqb-true d.callee task named in
      no_calls_of p e c at says opened (not-true (is_met journal p) parts.1) (omega (arith, same, below))
      (subst (λ (u : ℕ). has_no_calls tables.tasks tables.queues u ≡ true) (sym same) none)

  some_in_journal : (task : ℕ) → task < task_count journal → has_no_calls tables.tasks tables.queues task ≡ false
      → any_event (λ p e. calls_of task e && is_queued_at journal p e) journal ≡ true
  unfolding is_queued_at
  some_in_journal task below some =
      let (n, inside, waits) = all_below-fails (λ entry. eqb (length (queue_at tables.queues (slots_before (declared tables.tasks) task + entry))) 0)
      (entries_in (task_at tables.tasks task).families) some in
      let few : n < entries_in (families_of journal task) = subst (λ (f : Facts). n < entries_in f.families) (hold.facts task below) inside in
      let (entry, number) = numbered (families_of journal task) n few in
      let (p, contains) = some_call (queue_at tables.queues (slots_before (declared tables.tasks) task + n)) (queue journal task entry)
      (queue_is tables journal task entry n hold queues below number) waits in
      let queued = queue-found journal task entry p contains in
      let event = queued.opened.stands.event in
      any_event-from (λ p e. calls_of task e && is_queued_at journal p e) journal p event queued.opened.stands.stands
      (and_from (calls_of task event) (is_queued_at journal p event)
      (rw queued.opened.stands.says (eq-eqb queued.call.callee task queued.of_task))
      (and_from (is_open_at journal p event) (not (is_met journal p)) (is_open_at-from journal queued.call p queued.opened)
      (not_from_false (is_met journal p) queued.unmet)))

  -- the queues of a task are empty in the tables exactly where they are in the journal
  pub empty_alike : (task : ℕ) → task < task_count journal → has_no_calls tables.tasks tables.queues task ≡ has_empty_queues journal task
  unfolding has_empty_queues
  empty_alike task below =
      elim (cases_Bool (has_no_calls tables.tasks tables.queues task)) [
        | inl none ↦ none ∙ sym (not_from_false (any_event (λ p e. calls_of task e && is_queued_at journal p e) journal)
            (false_from_ne_true _ (not_in_tables task below none)))
        | inr some ↦ some ∙ sym (ap not (some_in_journal task below some))
      ]
