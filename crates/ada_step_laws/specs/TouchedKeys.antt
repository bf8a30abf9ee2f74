-- What an event touches: where each row can newly give a step.
use Rattle.std.specs.Prelude.{◌≡◌, ℕ, suc, ◌<◌, ◌||◌, Bool, true, false, Some, None, List, ◌∷◌, length}
use Rattle.std.specs.List.{Contains}
use Rattle.ada_events.specs.declared.event.Event.{Event}
use Rattle.ada_events.specs.declared.names.TaskNo.{TaskNo}
use Rattle.ada_events.specs.declared.names.Master.{Master}
use Rattle.ada_events.specs.declared.names.Master.TheVariants.{Body, Block}
use Rattle.ada_events.specs.Search.{event_at}
use Rattle.ada_events.specs.Says.{Call, Wait, Start, Closing, Creation, start_in, closing_in, creation_in, released_in, completed_in, moment_in}
use Rattle.ada_events.specs.Tasks.{task_count}
use Rattle.ada_events.specs.Masters.{depends_on}
use Rattle.ada_events.specs.Phases.{is_terminated, has_ended, is_abnormal}
use Rattle.ada_events.specs.Forced.{task_no, is_done_activating}
use Rattle.ada_events.specs.Termination.{is_complete, is_abandoned, is_ready_to_quit}
use Rattle.ada_laws.specs.Calls.{IsCallAt, IsWaitAt}
use Rattle.ada_laws.proofs.within.Depending.{IsMadeUnder}
use Rattle.ada_step_laws.specs.CalledTasks.{IsCallOf}
use Rattle.ada_step_laws.specs.Rows.{goes_by_task, goes_by_moment}
use Rattle.ada_step_laws.specs.declared.row.Row.{Row}
use Rattle.ada_step_laws.specs.declared.row.Row.TheVariants.{Halting, Failing, Meeting, Activating, Terminating, QuittingBody, QuittingBlock, Leaving}

-- a call to the task fails
abbrev pub is_uncallable : List Event → ℕ → Bool
is_uncallable journal task = has_ended journal task || is_abnormal journal task

-- the task is terminated, or ready to quit
abbrev pub is_idle : List Event → ℕ → Bool
is_idle journal task = is_terminated journal task || is_ready_to_quit journal task

-- a dependent of the master is newly so
pub record IsNewlyBelow (test : List Event → ℕ → Bool) (event : Event) (before : List Event) (master : Master) : Type 0 where
  pub task : ℕ
  pub exists : task < task_count before
  pub depends : depends_on before task master ≡ true
  pub was : test before task ≡ false
  pub now : test (event ∷ before) task ≡ true

-- why a master can newly quit: it is newly complete, a dependent of it is newly idle, or newly made
pub data MayQuit (event : Event) (before : List Event) (master : Master) : Type 0 where
  complete : is_complete before master ≡ false → is_complete (event ∷ before) master ≡ true → MayQuit event before master
  idle : IsNewlyBelow is_idle event before master → MayQuit event before master
  made : (task : ℕ) → IsMadeUnder event before task master → MayQuit event before master

pub data Touches (event : Event) (before : List Event) : Row → ℕ → Type 0 where
  newest : (row : Row) → goes_by_task row ≡ false → Touches event before row (suc (length before))
  task_made : (row : Row) (creation : Creation) → goes_by_task row ≡ true → creation_in event ≡ Some creation → Touches event before row (task_count before)
  aborts : (u : ℕ) → is_abnormal before u ≡ false → is_abnormal (event ∷ before) u ≡ true → Touches event before Halting u
  frees : (u p : ℕ) (call : Call) → released_in event ≡ Some p → IsCallAt before call p → call.by ≡ u → Touches event before Halting u
  loses : (p : ℕ) (call : Call) → IsCallAt before call p → is_uncallable before call.callee ≡ false → is_uncallable (event ∷ before) call.callee ≡ true
      → Touches event before Failing p
  calls : (p : ℕ) (wait : Wait) → IsWaitAt before wait p → IsCallOf event wait.by → Touches event before Meeting p
  moves : (row : Row) (p : ℕ) → goes_by_moment row ≡ true → (moment_in event ≡ None → ⊥) → Touches event before row p
  elaborates : (p : ℕ) (e : Event) (start : Start) (t : TaskNo) → event_at before p ≡ Some e → start_in e ≡ Some start → Contains start.tasks t
      → is_done_activating before t ≡ false → is_done_activating (event ∷ before) t ≡ true → Touches event before Activating p
  completes : (u : ℕ) → completed_in event ≡ Some u → Touches event before Terminating u
  abandons : (u : ℕ) → is_abandoned before u ≡ false → is_abandoned (event ∷ before) u ≡ true → Touches event before Terminating u
  ends_below : (u : ℕ) → IsNewlyBelow is_terminated event before (Body (task_no u)) → Touches event before Terminating u
  body_quits : (u : ℕ) → MayQuit event before (Body (task_no u)) → Touches event before QuittingBody u
  block_quits : (p : ℕ) → MayQuit event before (Block p) → Touches event before QuittingBlock p
  ends_within : (p : ℕ) (e : Event) (closing : Closing) → event_at before p ≡ Some e → closing_in e ≡ Some closing
      → IsNewlyBelow is_terminated event before (Block closing.block) → Touches event before Leaving p
