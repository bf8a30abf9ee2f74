-- The step that a journal forces: ten rows, of which the first that applies counts, each at its least
-- task number or position.
use Rattle.std.specs.Prelude.{ℕ, Bool, true, false, not, ◌&&◌, ◌||◌, if◌then◌else◌, Option, Some, None, List, [], ◌∷◌, int_le}
use Rattle.std.specs.Option.{option_map, option_or, option_and_then}
use Rattle.std.specs.Bool.{then_some}
use Rattle.std.specs.List.{list_any, list_all}
use Rattle.ada_events.specs.declared.event.Event.{Event}
use Rattle.ada_events.specs.declared.event.Event.TheVariants.{Halted, Failed, Met, Cancelled, Passed, Woken, Activated, Gone, Quit, Left}
use Rattle.ada_events.specs.declared.names.TaskNo.{TaskNo}
use Rattle.ada_events.specs.declared.names.Master.{Master}
use Rattle.ada_events.specs.declared.names.Master.TheVariants.{Body, Block}
use Rattle.ada_events.specs.declared.names.Patience.{Patience}
use Rattle.ada_events.specs.declared.names.Patience.TheVariants.{Conditional}
use Rattle.ada_events.specs.Search.{is_some_and, first_given, first_below, all_below}
use Rattle.ada_events.specs.Says.{Opening, Start, Call, Wait, Delay, Closing, opening_in, start_in, call_in, wait_in, delay_in, closing_in}
use Rattle.ada_events.specs.Tasks.{task_count, moment}
use Rattle.ada_events.specs.Masters.{depends_on}
use Rattle.ada_events.specs.Phases.{is_elaborated, has_failed, is_completed, is_terminated, has_ended, is_abnormal}
use Rattle.ada_events.specs.Calls.{is_pending, is_open_at, is_queued_at, is_caller_in_rendezvous}
use Rattle.ada_events.specs.Waits.{is_due, taken_call, way_of}
use Rattle.ada_events.specs.Termination.{all_terminated, is_complete, is_abandoned, is_ready_to_quit}

-- the task of that number
abbrev pub task_no : ℕ → TaskNo
task_no task = record { 0 = task }

-- 1. an abnormal task completes (9.10), unless it is the caller of a joined call
unfoldable pub is_to_halt : List Event → ℕ → Bool
is_to_halt journal task =
    is_abnormal journal task && not (has_ended journal task) && not (is_caller_in_rendezvous journal task)

unfoldable pub halted : List Event → Option Event
halted journal = first_below (λ u. then_some (is_to_halt journal u) (Halted (task_no u))) (task_count journal)

-- 2. an open call to a completed, terminated or abnormal task fails (9.5, 9.7.2, 9.7.3, 9.10)
unfoldable pub is_to_fail : List Event → ℕ → Event → Bool
is_to_fail journal position event =
    is_some_and (call_in event) (λ (c : Call). has_ended journal c.callee || is_abnormal journal c.callee)
    && is_open_at journal position event

unfoldable pub failed : List Event → Option Event
failed journal = first_given (λ p e. then_some (is_to_fail journal p e) (Failed p)) journal

-- 3. a wait takes the call at the front of a queue (9.5, 9.7.1)
unfoldable pub met_at : List Event → ℕ → Wait → Option Event
met_at journal position wait =
    if is_pending journal position wait.by then option_map (λ call. Met call position) (taken_call journal wait) else None

unfoldable pub met : List Event → Option Event
met journal = first_given (λ p e. option_and_then (met_at journal p) (wait_in e)) journal

-- 4. a queued call that is conditional or due is cancelled (9.7.2, 9.7.3)
abbrev pub is_conditional : Patience → Bool
is_conditional Conditional = true
is_conditional _ = false

unfoldable pub is_to_cancel : List Event → ℕ → Event → Bool
is_to_cancel journal position event =
    is_some_and (call_in event) (λ (c : Call). is_conditional c.patience || is_due (moment journal) c.due)
    && is_queued_at journal position event

unfoldable pub cancelled : List Event → Option Event
cancelled journal = first_given (λ p e. then_some (is_to_cancel journal p e) (Cancelled p)) journal

-- 5. a wait ends by its else part, by a delay, or by PROGRAM_ERROR (9.7.1)
unfoldable pub passed_at : List Event → ℕ → Wait → Option Event
passed_at journal position wait =
    if is_pending journal position wait.by
    then option_map (Passed position) (way_of (moment journal) wait.choices wait.pick wait.tail)
    else None

unfoldable pub passed : List Event → Option Event
passed journal = first_given (λ p e. option_and_then (passed_at journal p) (wait_in e)) journal

-- 6. a delay ends (9.6)
unfoldable pub is_to_wake : List Event → ℕ → Delay → Bool
is_to_wake journal position delay =
    int_le delay.due (moment journal) && is_pending journal position delay.by

unfoldable pub woken : List Event → Option Event
woken journal =
    first_given (λ p e. option_and_then (λ (d : Delay). then_some (is_to_wake journal p d) (Woken p)) (delay_in e)) journal

-- 7. an activation ends (9.3)
unfoldable pub is_done_activating : List Event → TaskNo → Bool
is_done_activating journal task = is_elaborated journal task.0 || has_ended journal task.0

unfoldable pub activated_at : List Event → ℕ → Start → Option Event
activated_at journal position start =
    if is_pending journal position start.by && list_all (is_done_activating journal) start.tasks
    then Some (Activated position (not (list_any (λ (t : TaskNo). has_failed journal t.0) start.tasks)))
    else None

unfoldable pub activated : List Event → Option Event
activated journal = first_given (λ p e. option_and_then (activated_at journal p) (start_in e)) journal

-- 8. a task terminates (9.3, 9.4)
unfoldable pub is_to_go : List Event → ℕ → Bool
is_to_go journal task =
    not (is_terminated journal task)
    && (is_completed journal task && all_terminated journal (Body (task_no task)) || is_abandoned journal task)

unfoldable pub gone : List Event → Option Event
gone journal = first_below (λ u. then_some (is_to_go journal u) (Gone (task_no u))) (task_count journal)

-- 9. all that depend on a master terminate together (9.4): bodies by task number, then blocks
unfoldable pub is_to_quit : List Event → Master → Bool
is_to_quit journal master =
    is_complete journal master && not (all_terminated journal master)
    && all_below (λ u. not (depends_on journal u master) || is_terminated journal u || is_ready_to_quit journal u) (task_count journal)

unfoldable pub quit_body : List Event → Option Event
quit_body journal =
    first_below (λ u. then_some (is_to_quit journal (Body (task_no u))) (Quit (Body (task_no u)))) (task_count journal)

unfoldable pub quit_block : List Event → Option Event
quit_block journal =
    first_given (λ p e. option_and_then (λ (_ : Opening). then_some (is_to_quit journal (Block p)) (Quit (Block p))) (opening_in e)) journal

-- 10. a task leaves the block that it closed (9.4)
unfoldable pub is_to_leave : List Event → ℕ → Closing → Bool
is_to_leave journal position closing =
    is_pending journal position closing.by && all_terminated journal (Block closing.block)

unfoldable pub left : List Event → Option Event
left journal =
    first_given (λ p e. option_and_then (λ (c : Closing). then_some (is_to_leave journal p c) (Left p)) (closing_in e)) journal

-- the first that there is
unfoldable pub first_of_all : List (Option Event) → Option Event
first_of_all [] = None
first_of_all (step ∷ rest) = option_or step (first_of_all rest)

-- the step that a journal forces
unfoldable pub forced : List Event → Option Event
forced journal =
    first_of_all
    (halted journal ∷ failed journal ∷ met journal ∷ cancelled journal ∷ passed journal ∷ woken journal
    ∷ activated journal ∷ gone journal ∷ quit_body journal ∷ quit_block journal ∷ left journal ∷ [])
