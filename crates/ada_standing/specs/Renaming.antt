-- What a second journal has for what a first one names.
use Rattle.std.specs.Prelude.{ℕ, Option, Some, None, List, [], ◌∷◌}
use Rattle.std.specs.Option.{option_map, option_and_then}
use Rattle.ada_events.specs.declared.event.Event.{Event}
use Rattle.ada_events.specs.declared.event.Event.TheVariants.{Opened, Created, Started, Elaborated, Called, Waiting, Paused, Ended, Closed, Completed, Aborted}
use Rattle.ada_events.specs.declared.event.Event.TheVariants.{Ticked, Halted, Failed, Met, Cancelled, Passed, Woken, Activated, Gone, Quit, Left}
use Rattle.ada_events.specs.declared.names.TaskNo.{TaskNo}
use Rattle.ada_events.specs.declared.names.Master.{Master}
use Rattle.ada_events.specs.declared.names.Master.TheVariants.{Body, Block}
use Rattle.ada_events.specs.declared.names.Member.{Member}
use Rattle.ada_events.specs.declared.names.Member.TheVariants.{Block as BlockMember, Rendezvous}
use Rattle.ada_events.specs.declared.outcome.Outcome.{Outcome}
use Rattle.ada_events.specs.declared.outcome.Outcome.TheVariants.{Accepted}
use Rattle.ada_events.specs.Forced.{task_no}
use Rattle.ada_laws.specs.Masters.{parent_of}

-- which task of the second journal stands for a task of the first, and which position for a position; none for
-- what may not be named any more
pub record Renaming : Type 0 where
  pub task : ℕ → Option ℕ
  pub position : ℕ → Option ℕ

-- the names of both, one after the other
abbrev pub chained : Renaming → Renaming → Renaming
chained names more = record {
  task = λ u. option_and_then more.task (names.task u);
  position = λ p. option_and_then more.position (names.position p);
}

unfoldable pub renamed_master : Renaming → Master → Option Master
renamed_master names (Body t) = option_map (λ v. Body (task_no v)) (names.task t.0)
renamed_master names (Block p) = option_map Block (names.position p)

unfoldable pub renamed_member : Renaming → Member → Option Member
renamed_member names (BlockMember p) = option_map BlockMember (names.position p)
renamed_member names (Rendezvous call) = option_map Rendezvous (names.position call)

unfoldable pub renamed_outcome : Renaming → Outcome → Option Outcome
renamed_outcome names (Accepted call choice) = option_map (λ c. Accepted c choice) (names.position call)
renamed_outcome names outcome = Some outcome

-- what stands for the parent of a master (9.4)
abbrev pub renamed_parent : Renaming → List Event → Master → Option Master
renamed_parent names journal master = option_and_then (renamed_master names) (parent_of journal master)

-- what two things make, where both are there
abbrev pub from_both : {A B C : Type 0} → (A → B → C) → Option A → Option B → Option C
from_both make (Some a) (Some b) = Some (make a b)
from_both make _ _ = None

unfoldable pub renamed_task : Renaming → TaskNo → Option TaskNo
renamed_task names t = option_map task_no (names.task t.0)

unfoldable pub renamed_tasks : Renaming → List TaskNo → Option (List TaskNo)
renamed_tasks names [] = Some []
renamed_tasks names (t ∷ rest) = from_both (λ u us. u ∷ us) (renamed_task names t) (renamed_tasks names rest)

-- what stands for an event: the same of the tasks, masters and positions that stand for those it names
unfoldable pub renamed_event : Renaming → Event → Option Event
renamed_event names (Opened by under) = from_both Opened (renamed_task names by) (renamed_master names under)
renamed_event names (Created by under master families) =
    option_and_then (λ b. from_both (λ u m. Created b u m families) (renamed_master names under) (renamed_master names master)) (renamed_task names by)
renamed_event names (Started by tasks) = from_both Started (renamed_task names by) (renamed_tasks names tasks)
renamed_event names (Elaborated by ok) = option_map (λ b. Elaborated b ok) (renamed_task names by)
renamed_event names (Called by callee entry patience due) =
    from_both (λ b c. Called b c entry patience due) (renamed_task names by) (renamed_task names callee)
renamed_event names (Waiting by pick choices tail) = option_map (λ b. Waiting b pick choices tail) (renamed_task names by)
renamed_event names (Paused by due) = option_map (λ b. Paused b due) (renamed_task names by)
renamed_event names (Ended by call raised) = from_both (λ b c. Ended b c raised) (renamed_task names by) (names.position call)
renamed_event names (Closed by block) = from_both Closed (renamed_task names by) (names.position block)
renamed_event names (Completed by) = option_map Completed (renamed_task names by)
renamed_event names (Aborted by tasks) = from_both Aborted (renamed_task names by) (renamed_tasks names tasks)
renamed_event names (Ticked now) = Some (Ticked now)
renamed_event names (Halted task) = option_map Halted (renamed_task names task)
renamed_event names (Failed call) = option_map Failed (names.position call)
renamed_event names (Met call wait) = from_both Met (names.position call) (names.position wait)
renamed_event names (Cancelled call) = option_map Cancelled (names.position call)
renamed_event names (Passed wait way) = option_map (λ w. Passed w way) (names.position wait)
renamed_event names (Woken pause) = option_map Woken (names.position pause)
renamed_event names (Activated start ok) = option_map (λ s. Activated s ok) (names.position start)
renamed_event names (Gone task) = option_map Gone (renamed_task names task)
renamed_event names (Quit master) = option_map Quit (renamed_master names master)
renamed_event names (Left close) = option_map Left (names.position close)
