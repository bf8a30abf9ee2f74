-- What a journal forces, row by row: the step with the conditions under which it is forced.
use Rattle.std.proofs.Common.{◌≡◌, ℕ, ◌<◌, Bool, true, not, ◌&&◌, Option, Some, None, List, [], ◌∷◌, refl, subst, inl, inr}
use Rattle.std.specs.Option.{option_or, option_map, option_and_then}
use Rattle.std.specs.Bool.{then_some}
use Rattle.std.specs.List.{list_any, list_all}
use Rattle.std.proofs.lemmas.Bool.{and_parts}
use Rattle.std.proofs.lemmas.Option.{option_and_then_some, same_Some, none-some}
use Rattle.ada_events.specs.declared.event.Event.{Event}
use Rattle.ada_events.specs.declared.event.Event.TheVariants.{Halted, Failed, Met, Cancelled, Passed, Woken, Activated, Gone, Quit, Left}
use Rattle.ada_events.specs.declared.event.Way.{Way}
use Rattle.ada_events.specs.declared.names.TaskNo.{TaskNo}
use Rattle.ada_events.specs.declared.names.Master.{Master}
use Rattle.ada_events.specs.declared.names.Master.TheVariants.{Body, Block}
use Rattle.ada_events.specs.Search.{event_at}
use Rattle.ada_events.specs.Says.{Opening, Start, Wait, Delay, Closing, wait_in, delay_in, start_in, closing_in, opening_in}
use Rattle.ada_events.specs.Tasks.{task_count, moment}
use Rattle.ada_events.specs.Phases.{has_failed}
use Rattle.ada_events.specs.Waits.{taken_call, way_of}
use Rattle.ada_events.specs.Forced.{task_no, is_done_activating, is_to_halt, halted, is_to_fail, failed, met_at, met, is_to_cancel, cancelled, passed_at}
use Rattle.ada_events.specs.Forced.{passed, is_to_wake, woken, activated_at, activated, is_to_go, gone, is_to_quit, quit_body, quit_block, is_to_leave, left}
use Rattle.ada_events.specs.Forced.{first_of_all, forced}
use Rattle.ada_events.specs.Calls.{is_pending}
use Rattle.ada_laws.proofs.searching.Searching.{option_or-some, option_or-none, then_some-some, if_some, option_map-some, first_given-found, first_below-found}

-- a step with its conditions
pub data IsRow (journal : List Event) : Event → Type 0 where
  halts : (u : ℕ) → u < task_count journal → is_to_halt journal u ≡ true → IsRow journal (Halted (task_no u))
  fails : (p : ℕ) (e : Event) → event_at journal p ≡ Some e → is_to_fail journal p e ≡ true → IsRow journal (Failed p)
  meets : (p : ℕ) (e : Event) (wait : Wait) (call : ℕ) → event_at journal p ≡ Some e → wait_in e ≡ Some wait → is_pending journal p wait.by ≡ true
      → taken_call journal wait ≡ Some call → IsRow journal (Met call p)
  cancels : (p : ℕ) (e : Event) → event_at journal p ≡ Some e → is_to_cancel journal p e ≡ true → IsRow journal (Cancelled p)
  passes : (p : ℕ) (e : Event) (wait : Wait) (way : Way) → event_at journal p ≡ Some e → wait_in e ≡ Some wait → is_pending journal p wait.by ≡ true
      → way_of (moment journal) wait.choices wait.pick wait.tail ≡ Some way → IsRow journal (Passed p way)
  wakes : (p : ℕ) (e : Event) (delay : Delay) → event_at journal p ≡ Some e → delay_in e ≡ Some delay → is_to_wake journal p delay ≡ true
      → IsRow journal (Woken p)
  activates : (p : ℕ) (e : Event) (start : Start) (ok : Bool) → event_at journal p ≡ Some e → start_in e ≡ Some start → is_pending journal p start.by ≡ true
      → list_all (is_done_activating journal) start.tasks ≡ true → not (list_any (λ (t : TaskNo). has_failed journal t.0) start.tasks) ≡ ok
      → IsRow journal (Activated p ok)
  goes : (u : ℕ) → u < task_count journal → is_to_go journal u ≡ true → IsRow journal (Gone (task_no u))
  quits : (m : Master) → is_to_quit journal m ≡ true → IsRow journal (Quit m)
  leaves : (p : ℕ) (e : Event) (closing : Closing) → event_at journal p ≡ Some e → closing_in e ≡ Some closing → is_to_leave journal p closing ≡ true
      → IsRow journal (Left p)

pub halted-row : (journal : List Event) (event : Event) → halted journal ≡ Some event → IsRow journal event
unfolding halted
halted-row journal event step =
    let (u, below, gives) = first_below-found (λ u. then_some (is_to_halt journal u) (Halted (task_no u))) (task_count journal) event step in
    let found = then_some-some (is_to_halt journal u) (Halted (task_no u)) event gives in
    subst (λ (e : Event). IsRow journal e) found.1 (halts u below found.0)

pub failed-row : (journal : List Event) (event : Event) → failed journal ≡ Some event → IsRow journal event
unfolding failed
failed-row journal event step =
    let (p, e, at, gives) = first_given-found (λ p e. then_some (is_to_fail journal p e) (Failed p)) journal event step in
    let found = then_some-some (is_to_fail journal p e) (Failed p) event gives in
    subst (λ (e : Event). IsRow journal e) found.1 (fails p e at found.0)

pub met-row : (journal : List Event) (event : Event) → met journal ≡ Some event → IsRow journal event
unfolding met met_at
met-row journal event step =
    let (p, e, at, gives) = first_given-found (λ p e. option_and_then (met_at journal p) (wait_in e)) journal event step in
    option_and_then_some (met_at journal p) (wait_in e) event gives (λ wait says given.
    let found = if_some (is_pending journal p wait.by) (option_map (λ call. Met call p) (taken_call journal wait)) event given in
    let (call, taken, same) = option_map-some (λ (call : ℕ). Met call p) (taken_call journal wait) event found.1 in
    subst (λ (e : Event). IsRow journal e) same (meets p e wait call at says found.0 taken))

pub cancelled-row : (journal : List Event) (event : Event) → cancelled journal ≡ Some event → IsRow journal event
unfolding cancelled
cancelled-row journal event step =
    let (p, e, at, gives) = first_given-found (λ p e. then_some (is_to_cancel journal p e) (Cancelled p)) journal event step in
    let found = then_some-some (is_to_cancel journal p e) (Cancelled p) event gives in
    subst (λ (e : Event). IsRow journal e) found.1 (cancels p e at found.0)

pub passed-row : (journal : List Event) (event : Event) → passed journal ≡ Some event → IsRow journal event
unfolding passed passed_at
passed-row journal event step =
    let (p, e, at, gives) = first_given-found (λ p e. option_and_then (passed_at journal p) (wait_in e)) journal event step in
    option_and_then_some (passed_at journal p) (wait_in e) event gives (λ wait says given.
    let found = if_some (is_pending journal p wait.by) (option_map (Passed p) (way_of (moment journal) wait.choices wait.pick wait.tail)) event given in
    let (way, taken, same) = option_map-some (Passed p) (way_of (moment journal) wait.choices wait.pick wait.tail) event found.1 in
    subst (λ (e : Event). IsRow journal e) same (passes p e wait way at says found.0 taken))

pub woken-row : (journal : List Event) (event : Event) → woken journal ≡ Some event → IsRow journal event
unfolding woken
woken-row journal event step =
    let (p, e, at, gives) = first_given-found (λ p e. option_and_then (λ (d : Delay). then_some (is_to_wake journal p d) (Woken p)) (delay_in e)) journal
    event step in
    option_and_then_some (λ (d : Delay). then_some (is_to_wake journal p d) (Woken p)) (delay_in e) event gives (λ delay says given.
    let found = then_some-some (is_to_wake journal p delay) (Woken p) event given in
    subst (λ (e : Event). IsRow journal e) found.1 (wakes p e delay at says found.0))

pub activated-row : (journal : List Event) (event : Event) → activated journal ≡ Some event → IsRow journal event
unfolding activated activated_at
activated-row journal event step =
    let (p, e, at, gives) = first_given-found (λ p e. option_and_then (activated_at journal p) (start_in e)) journal event step in
    option_and_then_some (activated_at journal p) (start_in e) event gives (λ start says given.
    let ok = not (list_any (λ (t : TaskNo). has_failed journal t.0) start.tasks) in
    let found = if_some (is_pending journal p start.by && list_all (is_done_activating journal) start.tasks) (Some (Activated p ok)) event given in
    let both = and_parts (is_pending journal p start.by) (list_all (is_done_activating journal) start.tasks) found.0 in
    subst (λ (e : Event). IsRow journal e) (same_Some (Activated p ok) event found.1) (activates p e start ok at says both.0 both.1 refl))

pub gone-row : (journal : List Event) (event : Event) → gone journal ≡ Some event → IsRow journal event
unfolding gone
gone-row journal event step =
    let (u, below, gives) = first_below-found (λ u. then_some (is_to_go journal u) (Gone (task_no u))) (task_count journal) event step in
    let found = then_some-some (is_to_go journal u) (Gone (task_no u)) event gives in
    subst (λ (e : Event). IsRow journal e) found.1 (goes u below found.0)

pub quit_body-row : (journal : List Event) (event : Event) → quit_body journal ≡ Some event → IsRow journal event
unfolding quit_body
quit_body-row journal event step =
    let (u, below, gives) = first_below-found (λ u. then_some (is_to_quit journal (Body (task_no u))) (Quit (Body (task_no u)))) (task_count journal)
    event step in
    let found = then_some-some (is_to_quit journal (Body (task_no u))) (Quit (Body (task_no u))) event gives in
    subst (λ (e : Event). IsRow journal e) found.1 (quits (Body (task_no u)) found.0)

pub quit_block-row : (journal : List Event) (event : Event) → quit_block journal ≡ Some event → IsRow journal event
unfolding quit_block
quit_block-row journal event step =
    let (p, e, at, gives) = first_given-found (λ p e. option_and_then (λ (_ : Opening). then_some (is_to_quit journal (Block p)) (Quit (Block p)))
    (opening_in e)) journal event step in
    option_and_then_some (λ (_ : Opening). then_some (is_to_quit journal (Block p)) (Quit (Block p))) (opening_in e) event gives (λ opening says given.
    let found = then_some-some (is_to_quit journal (Block p)) (Quit (Block p)) event given in
    subst (λ (e : Event). IsRow journal e) found.1 (quits (Block p) found.0))

pub left-row : (journal : List Event) (event : Event) → left journal ≡ Some event → IsRow journal event
unfolding left
left-row journal event step =
    let (p, e, at, gives) = first_given-found (λ p e. option_and_then (λ (c : Closing). then_some (is_to_leave journal p c) (Left p)) (closing_in e)) journal
    event step in
    option_and_then_some (λ (c : Closing). then_some (is_to_leave journal p c) (Left p)) (closing_in e) event gives (λ closing says given.
    let found = then_some-some (is_to_leave journal p closing) (Left p) event given in
    subst (λ (e : Event). IsRow journal e) found.1 (leaves p e closing at says found.0))

-- what holds of a step, if it holds of each of the two that it may be
either : (journal : List Event) (event : Event) (a b : Option Event) → (a ≡ Some event → IsRow journal event) → (b ≡ Some event → IsRow journal event)
    → option_or a b ≡ Some event → IsRow journal event
either journal event a b at_a at_b step = elim (option_or-some a b event step) [ inl same ↦ at_a same | inr same ↦ at_b same ]

-- a forced step is one of the rows
pub forced-row : (journal : List Event) (event : Event) → forced journal ≡ Some event → IsRow journal event
unfolding forced first_of_all
forced-row journal event step =
    either journal event (halted journal) _ (halted-row journal event)
    (either journal event (failed journal) _ (failed-row journal event)
    (either journal event (met journal) _ (met-row journal event)
    (either journal event (cancelled journal) _ (cancelled-row journal event)
    (either journal event (passed journal) _ (passed-row journal event)
    (either journal event (woken journal) _ (woken-row journal event)
    (either journal event (activated journal) _ (activated-row journal event)
    (either journal event (gone journal) _ (gone-row journal event)
    (either journal event (quit_body journal) _ (quit_body-row journal event)
    (either journal event (quit_block journal) _ (quit_block-row journal event)
    (either journal event (left journal) None (left-row journal event) (λ none. absurd (none-some event none))))))))))))
    step

-- where nothing is forced, no row has a step
pub record IsAtRest (journal : List Event) : Type 0 where
  pub no_halted : halted journal ≡ None
  pub no_failed : failed journal ≡ None
  pub no_met : met journal ≡ None
  pub no_cancelled : cancelled journal ≡ None
  pub no_passed : passed journal ≡ None
  pub no_woken : woken journal ≡ None
  pub no_activated : activated journal ≡ None
  pub no_gone : gone journal ≡ None
  pub no_quit_body : quit_body journal ≡ None
  pub no_quit_block : quit_block journal ≡ None
  pub no_left : left journal ≡ None

abbrev AllNone : List (Option Event) → Type 0
AllNone [] = Unit {0}
AllNone (step ∷ rest) = (step ≡ None) × AllNone rest

all_none : (steps : List (Option Event)) → first_of_all steps ≡ None → AllNone steps
unfolding first_of_all
all_none [] none = tt
all_none (step ∷ rest) none =
    let both = option_or-none step (first_of_all rest) none in
    (both.0, all_none rest both.1)

pub settled_at_rest : (journal : List Event) → forced journal ≡ None → IsAtRest journal
unfolding forced
settled_at_rest journal settled =
    let none = all_none (halted journal ∷ failed journal ∷ met journal ∷ cancelled journal ∷ passed journal ∷ woken journal ∷ activated journal ∷ gone journal
    ∷ quit_body journal ∷ quit_block journal ∷ left journal ∷ []) settled in
    record {
      no_halted = none.0;
      no_failed = none.1.0;
      no_met = none.1.1.0;
      no_cancelled = none.1.1.1.0;
      no_passed = none.1.1.1.1.0;
      no_woken = none.1.1.1.1.1.0;
      no_activated = none.1.1.1.1.1.1.0;
      no_gone = none.1.1.1.1.1.1.1.0;
      no_quit_body = none.1.1.1.1.1.1.1.1.0;
      no_quit_block = none.1.1.1.1.1.1.1.1.1.0;
      no_left = none.1.1.1.1.1.1.1.1.1.1.0;
    }
