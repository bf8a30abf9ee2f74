-- Completion and termination (9.3, 9.4): which masters are complete, which tasks are abandoned, which are
-- ready to quit.
use Rattle.std.specs.Prelude.{ℕ, Bool, false, not, ◌==◌, ◌&&◌, ◌||◌, List}
use Rattle.std.specs.List.{list_any}
use Rattle.ada_events.specs.declared.event.Event.{Event}
use Rattle.ada_events.specs.declared.event.EventTail.{EventTail}
use Rattle.ada_events.specs.declared.event.EventTail.TheVariants.{Terminate}
use Rattle.ada_events.specs.declared.names.Master.{Master}
use Rattle.ada_events.specs.declared.names.Master.TheVariants.{Body, Block}
use Rattle.ada_events.specs.Search.{is_some_and, any_event, all_below}
use Rattle.ada_events.specs.Says.{Creation, Opening, Call, Wait, Closing, opening_at, call_in, wait_in, closing_in}
use Rattle.ada_events.specs.Tasks.{task_count, creation_of}
use Rattle.ada_events.specs.Masters.{depends_on}
use Rattle.ada_events.specs.Phases.{has_start, is_completed, is_terminated, has_ended, is_released}
use Rattle.ada_events.specs.Calls.{is_queued_at}

-- every dependent of the master is terminated
unfoldable pub all_terminated : List Event → Master → Bool
all_terminated journal master =
    all_below (λ u. not (depends_on journal u master) || is_terminated journal u) (task_count journal)

-- the block has its close, or its task has ended
unfoldable pub is_complete_block : List Event → ℕ → Bool
is_complete_block journal block =
    list_any (λ (e : Event). is_some_and (closing_in e) (λ (c : Closing). c.block == block)) journal
    || is_some_and (opening_at journal block) (λ (o : Opening). has_ended journal o.by)

-- the master is complete (9.4): a block as above, a body where its task is completed
unfoldable pub is_complete : List Event → Master → Bool
is_complete journal (Body t) = is_completed journal t.0
is_complete journal (Block p) = is_complete_block journal p

-- the task will never be activated (9.3, 9.4): what it was made within is complete, or its maker is
-- terminated, and no start names it
unfoldable pub is_abandoned : List Event → ℕ → Bool
is_abandoned journal task =
    is_some_and (creation_of journal task) (λ (c : Creation). is_complete journal c.under || is_terminated journal c.by)
    && not (has_start journal task)

-- the tail is an open terminate alternative (9.7.1)
abbrev pub is_open_terminate : EventTail → Bool
is_open_terminate (Terminate guard) = guard
is_open_terminate _ = false

-- no call is queued at an entry of the task; a call names an entry of its callee
unfoldable pub has_empty_queues : List Event → ℕ → Bool
has_empty_queues journal task =
    not (any_event (λ p e. is_some_and (call_in e) (λ (c : Call). c.callee == task) && is_queued_at journal p e) journal)

-- the task has a wait with an open terminate alternative that isn't released (9.7.1)
abbrev pub is_at_open_terminate : List Event → ℕ → Bool
is_at_open_terminate journal task =
    any_event (λ p e. is_some_and (wait_in e) (λ (w : Wait). w.by == task && is_open_terminate w.tail) && not (is_released journal p)) journal

-- the task is suspended at an open terminate alternative, with no call queued at an entry of its own
-- (9.4, 9.7.1)
unfoldable pub is_ready_to_quit : List Event → ℕ → Bool
is_ready_to_quit journal task =
    is_at_open_terminate journal task && not (has_ended journal task) && has_empty_queues journal task
