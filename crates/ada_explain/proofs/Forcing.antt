-- Each row of the forced steps gives events of one kind, and no other row gives them.
use Rattle.std.proofs.Common.{◌≡◌, ℕ, ◌<◌, Option, Some, None, List, refl, sym, ap, ◌∙◌, subst}
use Rattle.std.specs.Option.{option_or, option_map, option_and_then}
use Rattle.std.specs.Bool.{then_some}
use Rattle.std.specs.List.{list_any, list_all}
use Rattle.std.specs.Prelude.{not, ◌&&◌, true, false, nat_lt, ◌-◌, slice_get}
use Rattle.std.proofs.lemmas.Bool.{false≢true, lt-ltb}
use Rattle.std.proofs.lemmas.Option.{option_and_then_some, same_Some, none-some}
use Rattle.ada_events.specs.declared.event.Event.{Event}
use Rattle.ada_events.specs.declared.event.Event.TheVariants.{Halted, Failed, Met, Cancelled, Passed, Woken, Activated, Gone, Quit, Left}
use Rattle.ada_events.specs.declared.names.TaskNo.{TaskNo}
use Rattle.ada_events.specs.declared.names.Master.TheVariants.{Body, Block}
use Rattle.ada_events.specs.Says.{Opening, Delay, Closing, wait_in, delay_in, start_in, closing_in, opening_in}
use Rattle.ada_events.specs.Tasks.{task_count, moment}
use Rattle.ada_events.specs.Phases.{has_failed}
use Rattle.ada_events.specs.Waits.{taken_call, way_of}
use Rattle.ada_events.specs.Calls.{is_pending}
use Rattle.ada_events.specs.Forced.{task_no, is_done_activating, is_to_halt, halted, is_to_fail, failed, met_at, met, is_to_cancel, cancelled, passed_at}
use Rattle.ada_events.specs.Forced.{passed, is_to_wake, woken, activated_at, activated, is_to_go, gone, is_to_quit, quit_body, quit_block, is_to_leave, left}
use Rattle.ada_events.specs.Forced.{first_of_all, forced}
use Rattle.ada_laws.proofs.searching.Searching.{then_some-some, if_some, option_map-some, first_given-found, first_below-found}
use Rattle.ada_waiting.specs.Runnable.{is_step}
use Rattle.ada_explain.specs.internal.Numbers.{number}
use Rattle.ada_explain.specs.Rows.{rows, IsRowOf, IsNeverForced}

halted-number : (journal : List Event) (event : Event) → halted journal ≡ Some event → number event ≡ 1
unfolding halted
halted-number journal event step =
    let (u, below, gives) = first_below-found (λ u. then_some (is_to_halt journal u) (Halted (task_no u))) (task_count journal) event step in
    ap number (sym (then_some-some (is_to_halt journal u) (Halted (task_no u)) event gives).1)

failed-number : (journal : List Event) (event : Event) → failed journal ≡ Some event → number event ≡ 2
unfolding failed
failed-number journal event step =
    let (p, e, at, gives) = first_given-found (λ p e. then_some (is_to_fail journal p e) (Failed p)) journal event step in
    ap number (sym (then_some-some (is_to_fail journal p e) (Failed p) event gives).1)

met-number : (journal : List Event) (event : Event) → met journal ≡ Some event → number event ≡ 3
unfolding met met_at
met-number journal event step =
    let (p, e, at, gives) = first_given-found (λ p e. option_and_then (met_at journal p) (wait_in e)) journal event step in
    option_and_then_some (met_at journal p) (wait_in e) event gives (λ wait says given.
    let found = if_some (is_pending journal p wait.by) (option_map (λ call. Met call p) (taken_call journal wait)) event given in
    let (call, taken, same) = option_map-some (λ (call : ℕ). Met call p) (taken_call journal wait) event found.1 in
    ap number (sym same))

cancelled-number : (journal : List Event) (event : Event) → cancelled journal ≡ Some event → number event ≡ 4
unfolding cancelled
cancelled-number journal event step =
    let (p, e, at, gives) = first_given-found (λ p e. then_some (is_to_cancel journal p e) (Cancelled p)) journal event step in
    ap number (sym (then_some-some (is_to_cancel journal p e) (Cancelled p) event gives).1)

passed-number : (journal : List Event) (event : Event) → passed journal ≡ Some event → number event ≡ 5
unfolding passed passed_at
passed-number journal event step =
    let (p, e, at, gives) = first_given-found (λ p e. option_and_then (passed_at journal p) (wait_in e)) journal event step in
    option_and_then_some (passed_at journal p) (wait_in e) event gives (λ wait says given.
    let found = if_some (is_pending journal p wait.by) (option_map (Passed p) (way_of (moment journal) wait.choices wait.pick wait.tail)) event given in
    let (way, taken, same) = option_map-some (Passed p) (way_of (moment journal) wait.choices wait.pick wait.tail) event found.1 in
    ap number (sym same))

woken-number : (journal : List Event) (event : Event) → woken journal ≡ Some event → number event ≡ 6
unfolding woken
woken-number journal event step =
    let (p, e, at, gives) = first_given-found (λ p e. option_and_then (λ (d : Delay). then_some (is_to_wake journal p d) (Woken p)) (delay_in e)) journal
    event step in
    option_and_then_some (λ (d : Delay). then_some (is_to_wake journal p d) (Woken p)) (delay_in e) event gives (λ delay says given.
    ap number (sym (then_some-some (is_to_wake journal p delay) (Woken p) event given).1))

activated-number : (journal : List Event) (event : Event) → activated journal ≡ Some event → number event ≡ 7
unfolding activated activated_at
activated-number journal event step =
    let (p, e, at, gives) = first_given-found (λ p e. option_and_then (activated_at journal p) (start_in e)) journal event step in
    option_and_then_some (activated_at journal p) (start_in e) event gives (λ start says given.
    let ok = not (list_any (λ (t : TaskNo). has_failed journal t.0) start.tasks) in
    let found = if_some (is_pending journal p start.by && list_all (is_done_activating journal) start.tasks) (Some (Activated p ok)) event given in
    ap number (sym (same_Some (Activated p ok) event found.1)))

gone-number : (journal : List Event) (event : Event) → gone journal ≡ Some event → number event ≡ 8
unfolding gone
gone-number journal event step =
    let (u, below, gives) = first_below-found (λ u. then_some (is_to_go journal u) (Gone (task_no u))) (task_count journal) event step in
    ap number (sym (then_some-some (is_to_go journal u) (Gone (task_no u)) event gives).1)

quit_body-number : (journal : List Event) (event : Event) → quit_body journal ≡ Some event → number event ≡ 9
unfolding quit_body
quit_body-number journal event step =
    let (u, below, gives) = first_below-found (λ u. then_some (is_to_quit journal (Body (task_no u))) (Quit (Body (task_no u)))) (task_count journal)
    event step in
    ap number (sym (then_some-some (is_to_quit journal (Body (task_no u))) (Quit (Body (task_no u))) event gives).1)

quit_block-number : (journal : List Event) (event : Event) → quit_block journal ≡ Some event → number event ≡ 9
unfolding quit_block
quit_block-number journal event step =
    let (p, e, at, gives) = first_given-found (λ p e. option_and_then (λ (_ : Opening). then_some (is_to_quit journal (Block p)) (Quit (Block p)))
    (opening_in e)) journal event step in
    option_and_then_some (λ (_ : Opening). then_some (is_to_quit journal (Block p)) (Quit (Block p))) (opening_in e) event gives (λ opening says given.
    ap number (sym (then_some-some (is_to_quit journal (Block p)) (Quit (Block p)) event given).1))

left-number : (journal : List Event) (event : Event) → left journal ≡ Some event → number event ≡ 10
unfolding left
left-number journal event step =
    let (p, e, at, gives) = first_given-found (λ p e. option_and_then (λ (c : Closing). then_some (is_to_leave journal p c) (Left p)) (closing_in e)) journal
    event step in
    option_and_then_some (λ (c : Closing). then_some (is_to_leave journal p c) (Left p)) (closing_in e) event gives (λ closing says given.
    ap number (sym (then_some-some (is_to_leave journal p closing) (Left p) event given).1))

-- a row gives the event, and it is the row of its kind
data IsGiven (journal : List Event) (event : Event) : Type 0 where
  by_row : (row : ℕ) → nat_lt 0 row ≡ true → slice_get (rows journal) (row - 1) ≡ Some (Some event) → number event ≡ row → IsGiven journal event

-- what holds of a step, if it holds of each of the two that it may be
either : (journal : List Event) (event : Event) (a b : Option Event) → (a ≡ Some event → IsGiven journal event)
    → (a ≡ None → b ≡ Some event → IsGiven journal event) → option_or a b ≡ Some event → IsGiven journal event
either journal event None b at_a at_b step = at_b refl step
either journal event (Some x) b at_a at_b step = at_a step

-- each part of row 9 gives what the row gives
of_body : (a b : Option Event) (event : Event) → a ≡ Some event → option_or a b ≡ Some event
of_body a b event step = rw step refl

of_block : (a b : Option Event) (event : Event) → a ≡ None → b ≡ Some event → option_or a b ≡ Some event
of_block a b event none step = rw none step

-- a step that is forced is given by the row of its kind
given : (journal : List Event) (event : Event) → forced journal ≡ Some event → IsGiven journal event
unfolding forced first_of_all
given journal event step =
    either journal event (halted journal) _ (λ by. by_row 1 refl (ap Some by) (halted-number journal event by)) (λ _.
    either journal event (failed journal) _ (λ by. by_row 2 refl (ap Some by) (failed-number journal event by)) (λ _.
    either journal event (met journal) _ (λ by. by_row 3 refl (ap Some by) (met-number journal event by)) (λ _.
    either journal event (cancelled journal) _ (λ by. by_row 4 refl (ap Some by) (cancelled-number journal event by)) (λ _.
    either journal event (passed journal) _ (λ by. by_row 5 refl (ap Some by) (passed-number journal event by)) (λ _.
    either journal event (woken journal) _ (λ by. by_row 6 refl (ap Some by) (woken-number journal event by)) (λ _.
    either journal event (activated journal) _ (λ by. by_row 7 refl (ap Some by) (activated-number journal event by)) (λ _.
    either journal event (gone journal) _ (λ by. by_row 8 refl (ap Some by) (gone-number journal event by)) (λ _.
    either journal event (quit_body journal) _
    (λ by. by_row 9 refl (ap Some (of_body (quit_body journal) (quit_block journal) event by)) (quit_body-number journal event by)) (λ none.
    either journal event (quit_block journal) _
    (λ by. by_row 9 refl (ap Some (of_block (quit_body journal) (quit_block journal) event none by)) (quit_block-number journal event by)) (λ _.
    either journal event (left journal) _ (λ by. by_row 10 refl (ap Some by) (left-number journal event by))
    (λ _ none. absurd (none-some event none)))))))))))) step

-- the row of its kind gives an event that is forced
pub is_row : (event : Event) (row : ℕ) → number event ≡ row → IsRowOf event row
is_row event row same journal step =
    elim (given journal event step) [
      | by_row other positive gives is ↦ subst (λ (n : ℕ). slice_get (rows journal) (n - 1) ≡ Some (Some event)) (sym is ∙ same) gives
    ]

-- an event that is asked for is never forced
pub is_never : (event : Event) → number event ≡ 0 → IsNeverForced event
is_never event same journal step =
    elim (given journal event step) [
      | by_row other positive gives is ↦ false≢true (subst (λ (n : ℕ). nat_lt 0 n ≡ true) (sym is ∙ same) positive)
    ]

-- an event has a row just if it is a step
step_number : (event : Event) → is_step event ≡ nat_lt 0 (number event)
unfolding is_step
step_number (Halted task) = refl
step_number (Failed call) = refl
step_number (Met call wait) = refl
step_number (Cancelled call) = refl
step_number (Passed wait way) = refl
step_number (Woken pause) = refl
step_number (Activated start ok) = refl
step_number (Gone task) = refl
step_number (Quit master) = refl
step_number (Left close) = refl
step_number _ = refl

pub no_step : (event : Event) → number event ≡ 0 → is_step event ≡ false
no_step event same = step_number event ∙ ap (nat_lt 0) same

pub some_step : (event : Event) (row : ℕ) → number event ≡ row → 0 < row → is_step event ≡ true
some_step event row same positive = step_number event ∙ (ap (nat_lt 0) same ∙ lt-ltb 0 row positive)
