-- Keys that are put into an agenda together, and who holds what a task was made under.
use Rattle.std.specs.Prelude.{◌≡◌, ℕ, ◌<◌, ◌==◌, ◌||◌, ◌&&◌, Bool, true, false, not, Option, Some, List, slice_get, slice_index_or}
use Rattle.std.specs.Option.{is_some, option_map, option_and_then}
use Rattle.ada_events.specs.declared.event.Event.{Event}
use Rattle.ada_events.specs.declared.names.Master.{Master}
use Rattle.ada_events.specs.declared.names.Master.TheVariants.{Body, Block}
use Rattle.ada_events.specs.declared.names.TaskNo.{TaskNo}
use Rattle.ada_events.specs.declared.names.Member.{Member}
use Rattle.ada_events.specs.declared.names.Member.TheVariants.{Block as BlockMember}
use Rattle.ada_events.specs.Search.{is_some_and, event_at}
use Rattle.ada_events.specs.Says.{Opening, Creation, Call, call_in, start_in, closing_in, moment_in, opening_at}
use Rattle.ada_events.specs.Waits.{is_due}
use Rattle.ada_events.specs.Tasks.{task_count, creation_of}
use Rattle.ada_events.specs.Masters.{depends_on}
use Rattle.ada_events.specs.Calls.{is_caller_in_rendezvous}
use Rattle.ada_events.specs.Phases.{has_start, has_ended, is_completed, is_abnormal, is_terminated}
use Rattle.ada_events.specs.Nests.{nest}
use Rattle.ada_events.specs.Termination.{all_terminated}
use Rattle.ada_laws.specs.Calls.{IsCallAt}
use Rattle.ada_laws.specs.Suspension.{IsSuspendedAt}
use Rattle.ada_step_laws.specs.TouchedKeys.{is_uncallable}
use Rattle.ada_step_laws.specs.declared.row.Row.{Row}
use Rattle.ada_step_laws.specs.declared.row.Row.TheVariants.{Halting, Failing, Activating, Terminating, QuittingBody, QuittingBlock, Leaving}
use Rattle.ada_events.specs.Holders.{holds}
use Rattle.ada_agenda.specs.Keeping.{When, AsKey}
use Rattle.ada_agenda.specs.internal.Keeping.{Both}
use Rattle.ada_step_laws.specs.Kinds.{quitting_row, quitting_key, due_in, due_row, IsActivationOf, IsOpenCallTo}

-- the keys of one of the first so many tasks
pub record OfFirst (Key : ℕ → Row → ℕ → Type 0) (many : ℕ) (row : Row) (key : ℕ) : Type 0 where
  pub task : ℕ
  pub among : task < many
  pub of : Key task row key

-- the event is of the kind of which that row gives a step: a start that is over, a close that is left
abbrev pub is_of_row : Row → Event → Bool
is_of_row Activating event = is_some (start_in event)
is_of_row Leaving event = is_some (closing_in event)
is_of_row _ event = true

-- only a task that hasn't ended, and isn't the caller in a rendezvous, is halted by an abort (9.10)
abbrev pub may_halt : List Event → ℕ → Bool
may_halt journal task = not (has_ended journal task) && not (is_caller_in_rendezvous journal task)

-- the task is flagged
abbrev pub is_flagged : List Bool → ℕ → Bool
is_flagged flags task = slice_index_or flags task false

-- a flagged task that may be halted
abbrev pub AsHaltable : List Event → List Bool → ℕ → Row → ℕ → Type 0
AsHaltable journal flags task = When (is_flagged flags task && may_halt journal task) (AsKey Halting task)

-- the position at which a task is suspended, in that row, where the event there is of its kind
pub data AsHeld (journal : List Event) (at : Row) (task : ℕ) : Row → ℕ → Type 0 where
  held : (event : Event) (p : ℕ) → event_at journal p ≡ Some event → is_of_row at event ≡ true → IsSuspendedAt journal task p → AsHeld journal at task at p

-- only a task that was never started, and isn't terminated, goes without having run (9.3)
abbrev pub may_be_abandoned : List Event → ℕ → Bool
may_be_abandoned journal task = not (has_start journal task) && not (is_terminated journal task)

-- a task that was made and never started, and isn't terminated (9.3)
pub data AsUnstarted (journal : List Event) (task : ℕ) : Row → ℕ → Type 0 where
  goes : (creation : Creation) → creation_of journal task ≡ Some creation → may_be_abandoned journal task ≡ true → AsUnstarted journal task Terminating task

-- the call to one of those tasks at which a task is suspended (9.5)
pub data AsCaller (journal : List Event) (those : ℕ → Bool) (task : ℕ) : Row → ℕ → Type 0 where
  fails : (call : Call) (p : ℕ) → IsCallAt journal call p → IsSuspendedAt journal task p → those call.callee ≡ true
      → AsCaller journal those task Failing p

-- what an abort may force of a task (9.10): that it is halted, where it is flagged as one that is hit, and that its call
-- to such a task fails
abbrev pub AsHit : List Event → List Bool → ℕ → Row → ℕ → Type 0
AsHit journal flags task = Both (AsHaltable journal flags task) (AsCaller journal (is_flagged flags) task)

-- that task alone
abbrev pub is_that : ℕ → ℕ → Bool
is_that task other = other == task

-- an open call to a task to which a call could be served before (9.5, 9.10)
pub data AsUncallable (journal : List Event) (callee : ℕ) : Row → ℕ → Type 0 where
  loses : (p : ℕ) → is_uncallable journal callee ≡ false → IsOpenCallTo journal callee p → AsUncallable journal callee Failing p

-- the moment that is waited for at an event has come by a tick (9.6)
abbrev pub is_due_by : Event → Event → Bool
is_due_by tick event = is_some_and (moment_in tick) (λ now. is_due now (due_in event))

-- the moment comes for which a task is suspended, in the row of what happens then
pub data AsDue (journal : List Event) (tick : Event) (task : ℕ) : Row → ℕ → Type 0 where
  comes : (event : Event) (p : ℕ) → event_at journal p ≡ Some event → IsSuspendedAt journal task p → is_due_by tick event ≡ true
      → AsDue journal tick task (due_row event) p

-- the moment comes that is waited for at a position
pub data AsDueAt (journal : List Event) (tick : Event) (at : ℕ) : Row → ℕ → Type 0 where
  comes_at : (event : Event) → event_at journal at ≡ Some event → is_due_by tick event ≡ true → AsDueAt journal tick at (due_row event) at

-- a block that a member of a nest is, in the row in which blocks quit
pub data AsMember (member : Option Member) : Row → ℕ → Type 0 where
  block : (p : ℕ) → member ≡ Some (BlockMember p) → AsMember member QuittingBlock p

-- the member at a place of a nest
abbrev pub AsBlock : List Member → ℕ → Row → ℕ → Type 0
AsBlock members place = AsMember (slice_get members place)

-- only a task that is completed, or was made and never started, goes (9.3, 9.4); no start names the main program
abbrev pub may_go : List Event → ℕ → Bool
may_go journal task = is_completed journal task || (not (has_start journal task) && not (task == 0))

-- only where a task is completed do the dependents of its body quit (9.4)
abbrev pub may_quit : List Event → Master → Bool
may_quit journal (Body t) = is_completed journal t.0
may_quit journal (Block p) = true

-- the quitting of each master that a task holds, its going, where these may be, and the leaving of the block that it
-- closes (9.4)
pub data AsHolder (journal : List Event) (task : ℕ) : Row → ℕ → Type 0 where
  quits : (m : Master) → holds task (nest journal task) m ≡ true → may_quit journal m ≡ true → AsHolder journal task (quitting_row m) (quitting_key m)
  goes : may_go journal task ≡ true → AsHolder journal task Terminating task
  leaves : (event : Event) (p : ℕ) → event_at journal p ≡ Some event → is_of_row Leaving event ≡ true → IsSuspendedAt journal task p
      → AsHolder journal task Leaving p

-- of each master on which a task depends the quitting, the going of its task, and the leaving (9.4)
pub data AsDependent (journal : List Event) (task : ℕ) : Row → ℕ → Type 0 where
  through : (holder : ℕ) (m : Master) (row : Row) (key : ℕ) → is_terminated journal task ≡ false → depends_on journal task m ≡ true
      → holds holder (nest journal holder) m ≡ true → AsHolder journal holder row key → AsDependent journal task row key

-- of a master what may be forced of it, and of those on which the task depends that holds it (9.4)
pub data AsMaster (journal : List Event) (m : Master) : Row → ℕ → Type 0 where
  own : (holder : ℕ) (row : Row) (key : ℕ) → holds holder (nest journal holder) m ≡ true → AsHolder journal holder row key → AsMaster journal m row key
  outer : (holder : ℕ) (row : Row) (key : ℕ) → holds holder (nest journal holder) m ≡ true → AsDependent journal holder row key
      → AsMaster journal m row key

-- the start that names a task, at which its maker is suspended (9.3)
pub data AsActivation (journal : List Event) (task : TaskNo) : Row → ℕ → Type 0 where
  activates : (p : ℕ) → IsActivationOf journal task p → AsActivation journal task Activating p

-- what the completion of a task may force (9.3, 9.4, 9.5): that it goes, that dependents of its body quit, where some of
-- them live, that calls to it fail, that the activation ends that names it, and that tasks go that were never started
abbrev pub AsCompletion : List Event → TaskNo → Row → ℕ → Type 0
AsCompletion journal task =
    let quits = When (not (all_terminated journal (Body task))) (AsKey QuittingBody task.0) in
    Both (Both (Both (Both (AsKey Terminating task.0) quits) (AsUncallable journal task.0)) (AsActivation journal task))
    (OfFirst (AsUnstarted journal) (task_count journal))

-- of the callee of the call at a position what its masters may force (9.4, 9.5)
pub data AsCalleeAt (journal : List Event) (at : ℕ) : Row → ℕ → Type 0 where
  called : (call : Call) (row : Row) (key : ℕ) → IsCallAt journal call at → AsDependent journal call.callee row key → AsCalleeAt journal at row key

-- who made the call at a position, where that is abnormal, as a task that is halted (9.10)
pub data AsCallerAt (journal : List Event) (at : ℕ) : Row → ℕ → Type 0 where
  made : (call : Call) → IsCallAt journal call at → is_abnormal journal call.by ≡ true → AsCallerAt journal at Halting call.by

-- the task that holds a master: the body's, or the one that opened the block
abbrev pub holder_of : List Event → Master → Option ℕ
holder_of journal (Body t) = Some t.0
holder_of journal (Block p) = option_map (λ (o : Opening). o.by) (opening_at journal p)

-- the task that holds what a task was made under; none for the main program
abbrev pub holder_above : List Event → ℕ → Option ℕ
holder_above journal task = option_and_then (λ (c : Creation). holder_of journal c.master) (creation_of journal task)

-- the event is a call to one of those tasks
abbrev pub calls : (ℕ → Bool) → Event → Bool
calls those event = is_some_and (call_in event) (λ (c : Call). those c.callee)
