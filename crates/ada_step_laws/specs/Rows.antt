-- The rows of the forced steps, and what each gives at a task number or a position.
use Rattle.std.specs.Prelude.{◌≡◌, ℕ, ◌<◌, nat_lt, Bool, true, false, Option, Some, None, List}
use Rattle.std.specs.Option.{option_and_then}
use Rattle.std.specs.Bool.{then_some}
use Rattle.ada_events.specs.declared.event.Event.{Event}
use Rattle.ada_events.specs.declared.event.Event.TheVariants.{Halted, Failed, Cancelled, Woken, Gone, Quit, Left}
use Rattle.ada_events.specs.declared.names.Master.TheVariants.{Body, Block}
use Rattle.ada_events.specs.Search.{event_at}
use Rattle.ada_events.specs.Says.{Opening, Delay, Closing, wait_in, delay_in, start_in, closing_in, opening_in}
use Rattle.ada_events.specs.Tasks.{task_count}
use Rattle.ada_step_laws.specs.declared.row.Row.{Row}
use Rattle.ada_step_laws.specs.declared.row.Row.TheVariants.{Halting, Failing, Meeting, Cancelling, Passing, Waking, Activating, Terminating, QuittingBody}
use Rattle.ada_step_laws.specs.declared.row.Row.TheVariants.{QuittingBlock, Leaving}
use Rattle.ada_events.specs.Forced.{task_no, is_to_halt, is_to_fail, met_at, is_to_cancel, passed_at, is_to_wake, activated_at, is_to_go, is_to_quit}
use Rattle.ada_events.specs.Forced.{is_to_leave}

-- the rows in their order
abbrev pub rank : Row → ℕ
rank Halting = 0
rank Failing = 1
rank Meeting = 2
rank Cancelling = 3
rank Passing = 4
rank Waking = 5
rank Activating = 6
rank Terminating = 7
rank QuittingBody = 8
rank QuittingBlock = 9
rank Leaving = 10

-- what a row gives at a position where an event stands
abbrev pub at_event : List Event → Row → ℕ → Event → Option Event
at_event journal Failing p e = then_some (is_to_fail journal p e) (Failed p)
at_event journal Meeting p e = option_and_then (met_at journal p) (wait_in e)
at_event journal Cancelling p e = then_some (is_to_cancel journal p e) (Cancelled p)
at_event journal Passing p e = option_and_then (passed_at journal p) (wait_in e)
at_event journal Waking p e = option_and_then (λ (d : Delay). then_some (is_to_wake journal p d) (Woken p)) (delay_in e)
at_event journal Activating p e = option_and_then (activated_at journal p) (start_in e)
at_event journal QuittingBlock p e = option_and_then (λ (_ : Opening). then_some (is_to_quit journal (Block p)) (Quit (Block p))) (opening_in e)
at_event journal Leaving p e = option_and_then (λ (c : Closing). then_some (is_to_leave journal p c) (Left p)) (closing_in e)
at_event journal _ p e = None

-- what a row gives of a task
abbrev pub of_task : List Event → Row → ℕ → Option Event
of_task journal Halting u = then_some (is_to_halt journal u) (Halted (task_no u))
of_task journal Terminating u = then_some (is_to_go journal u) (Gone (task_no u))
of_task journal QuittingBody u = then_some (is_to_quit journal (Body (task_no u))) (Quit (Body (task_no u)))
of_task journal _ u = None

-- the rows that go by tasks
abbrev pub goes_by_task : Row → Bool
goes_by_task Halting = true
goes_by_task Terminating = true
goes_by_task QuittingBody = true
goes_by_task _ = false

-- the rows that go by the moment
abbrev pub goes_by_moment : Row → Bool
goes_by_moment Cancelling = true
goes_by_moment Passing = true
goes_by_moment Waking = true
goes_by_moment _ = false

-- a task's step is one of a task that exists
abbrev pub known_step : List Event → Row → ℕ → Option Event
known_step journal row u = option_and_then (λ (_ : Event). of_task journal row u) (then_some (nat_lt u (task_count journal)) (Halted (task_no u)))

-- the step that a row gives at a key: a task number, or a position
unfoldable pub step_at : List Event → Row → ℕ → Option Event
step_at journal Halting k = known_step journal Halting k
step_at journal Terminating k = known_step journal Terminating k
step_at journal QuittingBody k = known_step journal QuittingBody k
step_at journal row k = option_and_then (at_event journal row k) (event_at journal k)

-- the agenda of a journal: wherever a row gives a step, its key is among those kept for that row
pub record IsAgenda (journal : List Event) (has : Row → ℕ → Bool) : Type 0 where
  pub kept : (row : Row) (key : ℕ) (step : Event) → step_at journal row key ≡ Some step → has row key ≡ true

-- the first row that has keys, and its least key
pub record IsFirst (has : Row → ℕ → Bool) (row : Row) (key : ℕ) : Type 0 where
  pub here : has row key ≡ true
  pub rows : (other : Row) (k : ℕ) → rank other < rank row → has other k ≡ false
  pub keys : (k : ℕ) → k < key → has row k ≡ false
