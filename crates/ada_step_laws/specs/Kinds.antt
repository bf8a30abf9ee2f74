-- Which keys an event adds to an agenda, by kind of event.
use Rattle.std.specs.Prelude.{◌≡◌, ◌⊎◌, ◌||◌, ℕ, ℤ, suc, Bool, true, false, Option, Some, None, List, ◌∷◌, length, int_le}
use Rattle.std.specs.List.{Contains}
use Rattle.std.specs.Option.{is_some}
use Rattle.ada_events.specs.declared.event.Event.{Event}
use Rattle.ada_events.specs.declared.event.Event.TheVariants.{Opened, Created, Started, Elaborated, Called, Waiting, Paused, Ended, Closed, Completed, Aborted}
use Rattle.ada_events.specs.declared.event.Event.TheVariants.{Ticked, Halted, Failed, Met, Cancelled, Passed, Woken, Activated, Gone, Quit, Left}
use Rattle.ada_events.specs.declared.event.EventTail.{EventTail}
use Rattle.ada_events.specs.declared.names.TaskNo.{TaskNo}
use Rattle.ada_events.specs.declared.event.Way.{Way}
use Rattle.ada_events.specs.declared.names.Patience.{Patience}
use Rattle.ada_events.specs.declared.names.Master.{Master}
use Rattle.ada_events.specs.declared.names.Master.TheVariants.{Body, Block}
use Rattle.ada_events.specs.declared.names.Member.TheVariants.{Block as BlockMember, Rendezvous}
use Rattle.ada_events.specs.Search.{is_some_and, event_at}
use Rattle.ada_events.specs.Says.{Creation, Start, Call, Closing, call_in, start_in, closing_in}
use Rattle.ada_events.specs.Tasks.{task_count, moment, creation_of}
use Rattle.ada_events.specs.Masters.{depends_on}
use Rattle.ada_events.specs.Phases.{has_start, is_terminated, is_abnormal}
use Rattle.ada_events.specs.Calls.{queue}
use Rattle.ada_events.specs.Nests.{nest}
use Rattle.ada_events.specs.Waits.{tail_due, is_due, way_of}
use Rattle.ada_events.specs.Forced.{is_conditional, is_done_activating}
use Rattle.ada_events.specs.Termination.{is_open_terminate, is_ready_to_quit}
use Rattle.ada_laws.specs.Calls.{IsCallAt, IsOpenCallAt}
use Rattle.ada_laws.specs.Suspension.{IsSuspendedAt}
use Rattle.ada_step_laws.specs.TouchedKeys.{is_uncallable}
use Rattle.ada_step_laws.specs.declared.row.Row.{Row}
use Rattle.ada_step_laws.specs.declared.row.Row.TheVariants.{Halting, Failing, Meeting, Cancelling, Passing, Waking, Activating, Terminating, QuittingBody}
use Rattle.ada_step_laws.specs.declared.row.Row.TheVariants.{QuittingBlock, Leaving}

-- the position of the event itself
abbrev pub itself : List Event → ℕ
itself before = suc (length before)

-- the row in which a master quits, and its key there
abbrev pub quitting_row : Master → Row
quitting_row (Body t) = QuittingBody
quitting_row (Block p) = QuittingBlock

abbrev pub quitting_key : Master → ℕ
quitting_key (Body t) = t.0
quitting_key (Block p) = p

-- a start stands at the position
pub record IsStartAt (journal : List Event) (start : Start) (position : ℕ) : Type 0 where
  pub event : Event
  pub stands : event_at journal position ≡ Some event
  pub says : start_in event ≡ Some start

-- a close stands at the position
pub record IsCloseAt (journal : List Event) (closing : Closing) (position : ℕ) : Type 0 where
  pub event : Event
  pub stands : event_at journal position ≡ Some event
  pub says : closing_in event ≡ Some closing

-- the task's maker is suspended at a start that names the task, and waits for the end of its activation (9.3)
pub record IsActivationOf (journal : List Event) (task : TaskNo) (position : ℕ) : Type 0 where
  pub creation : Creation
  pub made : creation_of journal task.0 ≡ Some creation
  pub suspended : IsSuspendedAt journal creation.by position
  pub start : Start
  pub stands : IsStartAt journal start position
  pub named : Contains start.tasks task
  pub undone : is_done_activating journal task ≡ false

-- the task was made by that one, and was never started
pub record IsUnstartedBy (journal : List Event) (task maker : ℕ) : Type 0 where
  pub creation : Creation
  pub made : creation_of journal task ≡ Some creation
  pub by : creation.by ≡ maker
  pub never : has_start journal task ≡ false

-- the task was made within that block, and was never started
pub record IsUnstartedIn (journal : List Event) (task block : ℕ) : Type 0 where
  pub creation : Creation
  pub made : creation_of journal task ≡ Some creation
  pub within : creation.under ≡ Block block
  pub never : has_start journal task ≡ false

-- an open call to the task: it stands in a queue of the task, or its rendezvous in the task's nest
pub record IsOpenCallTo (journal : List Event) (task position : ℕ) : Type 0 where
  pub call : Call
  pub opened : IsOpenCallAt journal call position
  pub to : call.callee ≡ task
  pub place : Contains (queue journal task call.entry) position
      ⊎ Contains (nest journal task) (Rendezvous position)

-- the task that is within a block is suspended at its close
pub record IsLeaving (journal : List Event) (block position : ℕ) : Type 0 where
  pub closing : Closing
  pub stands : IsCloseAt journal closing position
  pub of : closing.block ≡ block
  pub suspended : IsSuspendedAt journal closing.by position
  pub within : Contains (nest journal closing.by) (BlockMember block)

-- the moment that is waited for at an event: by a timed call, a delay, or a wait with delay
-- alternatives
abbrev pub due_in : Event → Option ℤ
due_in (Called by callee entry patience due) = due
due_in (Paused by due) = Some due
due_in (Waiting by pick choices tail) = tail_due tail
due_in _ = None

-- the row of what happens then
abbrev pub due_row : Event → Row
due_row (Called by callee entry patience due) = Cancelling
due_row (Paused by due) = Waking
due_row _ = Passing

-- the moment that a suspended task waits for comes
pub record ComesDue (journal : List Event) (now : ℤ) (row : Row) (position : ℕ) : Type 0 where
  pub task : ℕ
  pub suspended : IsSuspendedAt journal task position
  pub event : Event
  pub stands : event_at journal position ≡ Some event
  pub due : ℤ
  pub waits : due_in event ≡ Some due
  pub was : int_le due (moment journal) ≡ false
  pub comes : int_le due now ≡ true
  pub in_row : due_row event ≡ row

-- the event makes the task abnormal
pub record IsHit (event : Event) (before : List Event) (task : ℕ) : Type 0 where
  pub was : is_abnormal before task ≡ false
  pub now : is_abnormal (event ∷ before) task ≡ true

-- no key
abbrev pub Nowhere : Row → ℕ → Type 0
Nowhere row key = ⊥

-- a creation (9.3): the new task
pub data OfCreation (before : List Event) : Row → ℕ → Type 0 where
  goes : OfCreation before Terminating (task_count before)

-- a start (9.3): itself
pub data OfStart (before : List Event) : Row → ℕ → Type 0 where
  is_over : OfStart before Activating (itself before)

-- the end of an activation without an exception (9.3): the start that names the task
pub data OfElaboration (before : List Event) (task : TaskNo) : Row → ℕ → Type 0 where
  activates : (p : ℕ) → IsActivationOf before task p → OfElaboration before task Activating p

-- a call is given up where it isn't served at once: it is conditional, or its moment has come (9.7.2, 9.7.3)
abbrev pub is_immediate : List Event → Patience → Option ℤ → Bool
is_immediate journal patience due = is_conditional patience || is_due (moment journal) due

-- the event is a call that is given up
abbrev pub is_immediate_call : List Event → Event → Bool
is_immediate_call before event = is_some_and (call_in event) (λ (c : Call). is_immediate before c.patience c.due)

-- a call (9.5): itself, where its callee has ended or is abnormal, and where it is given up; and the wait at which its
-- callee is suspended
pub data OfCall (before : List Event) (callee : ℕ) (immediate : Bool) : Row → ℕ → Type 0 where
  fails : is_uncallable before callee ≡ true → OfCall before callee immediate Failing (itself before)
  is_cancelled : immediate ≡ true → OfCall before callee immediate Cancelling (itself before)
  is_taken : (p : ℕ) → IsSuspendedAt before callee p → OfCall before callee immediate Meeting p

-- a wait (9.7.1): itself, as one that takes a call, or, where there is a way in which it ends otherwise, as one that
-- passes; with an open terminate alternative also the masters on which the task depends
pub data OfWait (before : List Event) (task : ℕ) (way : Option Way) (tail : EventTail) : Row → ℕ → Type 0 where
  takes : OfWait before task way tail Meeting (itself before)
  passes : is_some way ≡ true → OfWait before task way tail Passing (itself before)
  quits : (m : Master) → is_open_terminate tail ≡ true → depends_on before task m ≡ true
      → OfWait before task way tail (quitting_row m) (quitting_key m)

-- a delay (9.6): itself
pub data OfDelay (before : List Event) : Row → ℕ → Type 0 where
  wakes : OfDelay before Waking (itself before)

-- a close (9.4): itself, its block, and the tasks made within the block that were never started
pub data OfClose (before : List Event) (block : ℕ) : Row → ℕ → Type 0 where
  leaves : OfClose before block Leaving (itself before)
  quits : OfClose before block QuittingBlock block
  abandons : (u : ℕ) → IsUnstartedIn before u block → OfClose before block Terminating u

-- the end of a rendezvous (9.5), and the failure of a call: the caller, where it is abnormal
pub data OfEnd (before : List Event) (call : ℕ) : Row → ℕ → Type 0 where
  halts : (called : Call) → IsCallAt before called call → is_abnormal before called.by ≡ true
      → OfEnd before call Halting called.by

-- a cancellation (9.7.2, 9.7.3): where it makes the callee ready to quit, the masters on which that
-- depends
pub data OfCancellation (event : Event) (before : List Event) (call : ℕ) : Row → ℕ → Type 0 where
  quits : (called : Call) (m : Master) → IsCallAt before called call
      → is_ready_to_quit (event ∷ before) called.callee ≡ true
      → depends_on before called.callee m ≡ true
      → OfCancellation event before call (quitting_row m) (quitting_key m)

-- a completion (9.4): the task and its body, the open calls to it, unless they failed already since the task
-- is abnormal, the start that names it, and the tasks that it made and that were never started
pub data OfCompletion (before : List Event) (task : TaskNo) : Row → ℕ → Type 0 where
  goes : OfCompletion before task Terminating task.0
  quits : OfCompletion before task QuittingBody task.0
  fails : (p : ℕ) → is_uncallable before task.0 ≡ false → IsOpenCallTo before task.0 p → OfCompletion before task Failing p
  activates : (p : ℕ) → IsActivationOf before task p → OfCompletion before task Activating p
  abandons : (u : ℕ) → IsUnstartedBy before u task.0 → OfCompletion before task Terminating u

-- a halt (9.10): all of a completion, and the blocks in the task's nest; where its call leaves a
-- queue and makes the callee ready to quit, the masters on which that depends
pub data OfHalt (event : Event) (before : List Event) (task : TaskNo) : Row → ℕ → Type 0 where
  completes : (row : Row) (key : ℕ) → OfCompletion before task row key
      → OfHalt event before task row key
  quits_block : (p : ℕ) → Contains (nest before task.0) (BlockMember p)
      → OfHalt event before task QuittingBlock p
  empties : (p : ℕ) (called : Call) (m : Master) → IsSuspendedAt before task.0 p
      → IsCallAt before called p → is_ready_to_quit (event ∷ before) called.callee ≡ true
      → depends_on before called.callee m ≡ true
      → OfHalt event before task (quitting_row m) (quitting_key m)

-- an abort (9.10): each task that it makes abnormal, and the open calls to it
pub data OfAbort (event : Event) (before : List Event) : Row → ℕ → Type 0 where
  halts : (u : ℕ) → IsHit event before u → OfAbort event before Halting u
  fails : (u p : ℕ) → IsHit event before u → IsOpenCallTo before u p
      → OfAbort event before Failing p

-- a tick (9.6, 9.7.1, 9.7.3): the timed calls, the waits and the delays whose moment comes
pub data OfTick (before : List Event) (now : ℤ) : Row → ℕ → Type 0 where
  comes_due : (row : Row) (p : ℕ) → ComesDue before now row p → OfTick before now row p

-- where a task terminates (9.4): the open calls to it, unless they failed already since the task is completed or
-- abnormal, the start that names it, and of each master on which it depends its quitting, its task's going, and its
-- being left
pub data OfTermination (before : List Event) (task : TaskNo) : Row → ℕ → Type 0 where
  fails : (p : ℕ) → is_uncallable before task.0 ≡ false → IsOpenCallTo before task.0 p → OfTermination before task Failing p
  activates : (p : ℕ) → IsActivationOf before task p → OfTermination before task Activating p
  goes : (t : TaskNo) → depends_on before task.0 (Body t) ≡ true → OfTermination before task Terminating t.0
  quits : (m : Master) → depends_on before task.0 m ≡ true
      → OfTermination before task (quitting_row m) (quitting_key m)
  leaves : (block p : ℕ) → depends_on before task.0 (Block block) ≡ true → IsLeaving before block p
      → OfTermination before task Leaving p

-- where all that depend on a master terminate together (9.4): all of the termination of each, and
-- the tasks that it made and that were never started
pub data OfQuit (before : List Event) (master : Master) : Row → ℕ → Type 0 where
  ends : (t : TaskNo) (row : Row) (key : ℕ) → depends_on before t.0 master ≡ true
      → is_terminated before t.0 ≡ false → OfTermination before t row key → OfQuit before master row key
  abandons : (t : TaskNo) (u : ℕ) → depends_on before t.0 master ≡ true
      → is_terminated before t.0 ≡ false → IsUnstartedBy before u t.0 → OfQuit before master Terminating u

-- the keys that an event adds
abbrev pub Adds : List Event → Event → Row → ℕ → Type 0
Adds before (Opened by under) = Nowhere
Adds before (Created by under master families) = OfCreation before
Adds before (Started by tasks) = OfStart before
Adds before (Elaborated by true) = OfElaboration before by
Adds before (Elaborated by false) = OfCompletion before by
Adds before (Called by callee entry patience due) = OfCall before callee.0 (is_immediate before patience due)
Adds before (Waiting by pick choices tail) = OfWait before by.0 (way_of (moment before) choices pick tail) tail
Adds before (Paused by due) = OfDelay before
Adds before (Ended by call raised) = OfEnd before call
Adds before (Closed by block) = OfClose before block
Adds before (Completed by) = OfCompletion before by
Adds before (Aborted by tasks) = OfAbort (Aborted by tasks) before
Adds before (Ticked now) = OfTick before now
Adds before (Halted task) = OfHalt (Halted task) before task
Adds before (Failed call) = OfEnd before call
Adds before (Met call wait) = Nowhere
Adds before (Cancelled call) = OfCancellation (Cancelled call) before call
Adds before (Passed wait way) = Nowhere
Adds before (Woken pause) = Nowhere
Adds before (Activated start ok) = Nowhere
Adds before (Gone task) = OfTermination before task
Adds before (Quit master) = OfQuit before master
Adds before (Left close) = Nowhere
