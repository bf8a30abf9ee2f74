-- The open choices of a wait name entries of its task, and what tables hold of their queues.
use Rattle.std.proofs.Common.{◌≡◌, ℕ, ◌<◌, ◌%◌, ◌&&◌, Bool, true, false, Option, Some, None, List, [], ◌∷◌, map, length, refl, sym, ap, ◌∙◌, subst, arith}
use Rattle.std.proofs.Common.{inl, inr}
use Rattle.std.specs.Prelude.{slice_get}
use Rattle.std.specs.Bool.{then_some}
use Rattle.std.specs.Option.{option_and_then, is_some}
use Rattle.std.proofs.lemmas.Nat.{mod_below}
use Rattle.std.proofs.lemmas.Option.{none-some, same_Some}
use Rattle.ada_events.specs.declared.event.Event.{Event}
use Rattle.ada_events.specs.declared.names.Choice.{Choice}
use Rattle.ada_events.specs.declared.names.Entry.{Entry}
use Rattle.ada_events.specs.declared.request.Request.{Request}
use Rattle.ada_events.specs.declared.request.Request.TheVariants as request
use Rattle.ada_events.specs.Search.{event_at}
use Rattle.ada_events.specs.Says.{Wait, wait_in}
use Rattle.ada_events.specs.Asks.{asked_event}
use Rattle.ada_events.specs.Tasks.{families_of}
use Rattle.ada_events.specs.Slots.{number_within}
use Rattle.ada_events.specs.Calls.{queue}
use Rattle.ada_events.specs.Waits.{picked, numbers_from, front_of, is_selectable}
use Rattle.ada_events.specs.Refusals.{refusal, lacks_family, is_outside, names_no_family, breaks_constraint}
use Rattle.ada_events.specs.Lawful.{IsLawful, MayFollow}
use Rattle.ada_laws.proofs.searching.Searching.{event_at-cases}
use Rattle.ada_laws.proofs.asking.Accepting.{is_accepted}
use Rattle.ada_laws.proofs.forced.Stepping.{forced-step}
use Rattle.ada_laws.proofs.searching.Saying.{held_in-wait}
use Rattle.ada_tables.specs.Queues.{QueuedCall, queue_at, front_call}
use Rattle.ada_tables.specs.Tables.{TableState, slot_at, HasEntry}
use Rattle.ada_tables.specs.Standing.{StandFor}
use Rattle.ada_tables.specs.Dependents.{Facts}
use Rattle.ada_step_laws.proofs.newly.StartedTasks.{any_none}
use Rattle.ada_records.proofs.following.Entries.{has_number, families_stay, declarer_exists}
use Rattle.ada_view.specs.internal.Choosing.{IsDeclared, AreOfTask}

declared_later : (event : Event) (before : List Event) (task : ℕ) (entry : Entry) → IsDeclared before task entry → IsDeclared (event ∷ before) task entry
declared_later event before task entry (n, is) =
    (n, ap (λ families. number_within families entry) (families_stay event before task (declarer_exists before task entry n is)) ∙ is)

of_task_later : (event : Event) (before : List Event) (wait : Wait) → AreOfTask before wait.by wait.choices → AreOfTask (event ∷ before) wait.by wait.choices
of_task_later event before wait are choice among opened = declared_later event before wait.by choice.entry (are choice among opened)

asked_wait : (journal : List Event) (r : Request) (wait : Wait) → refusal journal r ≡ None → wait_in (asked_event journal r) ≡ Some wait
    → AreOfTask journal wait.by wait.choices
unfolding asked_event wait_in names_no_family breaks_constraint lacks_family is_outside
asked_wait journal (request.Wait by choices tail pick) wait accepted says =
    subst (λ (w : Wait). AreOfTask journal w.by w.choices) (same_Some _ wait says) of_choice
  where
    of_choice : AreOfTask journal by.0 choices
    of_choice choice among opened =
        let is = is_accepted journal (request.Wait by choices tail pick) accepted in
        let known = any_none (λ (c : Choice). lacks_family journal by.0 c.entry) choices choice is.families_known among in
        let within = any_none (λ (c : Choice). c.guard && is_outside journal by.0 c.entry) choices choice is.in_range among in
        has_number (families_of journal by.0) choice.entry (slice_get (families_of journal by.0) choice.entry.family) refl known (rw opened at within)
asked_wait journal _ wait accepted says = absurd (none-some wait says)

new_wait : (event : Event) (before : List Event) (wait : Wait) → MayFollow refusal before event → wait_in event ≡ Some wait
    → AreOfTask before wait.by wait.choices
new_wait event before wait (inl forces) says = absurd (none-some wait.by (sym (forced-step before event forces).holds_none ∙ held_in-wait event wait says))
new_wait event before wait (inr asked) says = asked_wait before asked.request wait asked.accepted (ap wait_in (sym asked.becomes) ∙ says)

-- in a lawful journal the open choices of a wait name entries of its task
pub choices_are_of_task : (journal : List Event) (p : ℕ) (event : Event) (wait : Wait) → IsLawful journal → event_at journal p ≡ Some event
    → wait_in event ≡ Some wait → AreOfTask journal wait.by wait.choices
unfolding event_at
choices_are_of_task [] p event wait lawful at says = absurd (none-some event at)
choices_are_of_task (newest ∷ before) p event wait lawful at says =
    elim (event_at-cases newest before p event at) [
      | inl now ↦ of_task_later newest before wait (new_wait newest before wait lawful.1 (ap wait_in now.1 ∙ says))
      | inr was ↦ of_task_later newest before wait (choices_are_of_task before p event wait lawful.0 was says)
    ]

-- an entry that a task has stands in the tables
pub declared_has : (tables : TableState) (journal : List Event) (task : ℕ) (entry : Entry) → StandFor tables journal → IsDeclared journal task entry
    → HasEntry tables.tasks task entry
declared_has tables journal task entry stand (n, is) =
    let known = declarer_exists journal task entry n is in
    record {
      known = subst (λ many. task < many) (sym stand.many) known;
      declares = rw (ap (λ (f : Facts). number_within f.families entry) (stand.tasks task known) ∙ is) refl;
    }

front_is : (calls : List QueuedCall) (positions : List ℕ) → map (λ (c : QueuedCall). c.call) calls ≡ positions → front_call calls ≡ slice_get positions 0
front_is [] positions is = rw (sym is) refl
front_is (first ∷ rest) positions is = rw (sym is) refl

-- the front of an entry's queue is what the tables hold there
pub front_told : (tables : TableState) (journal : List Event) (task : ℕ) (entry : Entry) → StandFor tables journal → HasEntry tables.tasks task entry
    → front_call (queue_at tables.queues (slot_at tables.tasks task entry)) ≡ slice_get (queue journal task entry) 0
front_told tables journal task entry stand has = front_is _ (queue journal task entry) (stand.queues task entry has).positions

mod_one : (n : ℕ) → n % 1 ≡ 0
mod_one n =
    let below : n % 1 < 1 = mod_below n 1 (omega arith) in
    omega (arith, below)

-- of one choice it is the first that is picked, where it passes
pub one_picked : (test : Choice → Bool) (pick : ℕ) (choice : Choice) (rest : List Choice) → length rest ≡ 0
    → picked pick (numbers_from test 0 (choice ∷ rest)) ≡ then_some (test choice) 0
unfolding numbers_from
one_picked test pick choice [] none = by_test (test choice) refl
  where
    by_test : (passes : Bool) → test choice ≡ passes → picked pick (numbers_from test 0 (choice ∷ [])) ≡ then_some (test choice) 0
    by_test true is = rw is (ap (slice_get (0 ∷ [])) (mod_one pick))
    by_test false is = rw is refl
one_picked test pick choice (a ∷ rest) none = absurd (omega (arith, none))

-- so of one choice the front of its queue is taken
pub one_front : (journal : List Event) (task pick : ℕ) (choice : Choice) (rest : List Choice) → length rest ≡ 0
    → option_and_then (front_of journal task) (option_and_then (slice_get (choice ∷ rest))
    (picked pick (numbers_from (is_selectable journal task) 0 (choice ∷ rest)))) ≡ front_of journal task choice
unfolding is_selectable
one_front journal task pick choice rest none =
    ap (λ number. option_and_then (front_of journal task) (option_and_then (slice_get (choice ∷ rest)) number))
    (one_picked (is_selectable journal task) pick choice rest none)
    ∙ of_front (front_of journal task choice) refl
  where
    of_front : (front : Option ℕ) → front_of journal task choice ≡ front
        → option_and_then (front_of journal task) (option_and_then (slice_get (choice ∷ rest)) (then_some (is_some (front_of journal task choice)) 0))
        ≡ front_of journal task choice
    of_front (Some call) is = rw is is
    of_front None is = rw is refl
