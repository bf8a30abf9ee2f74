-- Parts of what the rules ask before a task goes or quits (9.4, 9.7.1), each by a name of its own.
use Rattle.std.specs.Prelude.{ℕ, Bool, not, ◌==◌, ◌&&◌, ◌||◌, List}
use Rattle.ada_events.specs.declared.event.Event.{Event}
use Rattle.ada_events.specs.Search.{is_some_and}
use Rattle.ada_events.specs.Says.{Call, Closing, Creation, Wait, call_in, closing_in, wait_in}
use Rattle.ada_events.specs.Phases.{is_released, is_terminated}
use Rattle.ada_events.specs.Calls.{is_queued_at}
use Rattle.ada_events.specs.Termination.{is_complete, is_open_terminate}

-- what a task was made within is complete, or its maker is terminated
abbrev pub is_over : List Event → Creation → Bool
is_over journal c = is_complete journal c.under || is_terminated journal c.by

-- the event is a wait of the task with an open terminate alternative, which isn't released
abbrev pub waits_open : List Event → ℕ → ℕ → Event → Bool
waits_open journal task p e = is_some_and (wait_in e) (λ (w : Wait). w.by == task && is_open_terminate w.tail) && not (is_released journal p)

-- the event is a call to the task, which is queued
abbrev pub calls_it : List Event → ℕ → ℕ → Event → Bool
calls_it journal task p e = is_some_and (call_in e) (λ (c : Call). c.callee == task) && is_queued_at journal p e

-- the event closes the block
abbrev pub closes_block : ℕ → Event → Bool
closes_block block event = is_some_and (closing_in event) (λ (k : Closing). k.block == block)
