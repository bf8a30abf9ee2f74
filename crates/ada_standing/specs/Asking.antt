-- Requests to two journals of which the second stands in for the first, and the answers to questions.
use Rattle.std.specs.Prelude.{◌≡◌, ℕ, Bool, true, not, ◌&&◌, ◌||◌, Some, List, map}
use Rattle.std.specs.Option.{option_map_or, unwrap_or, is_some}
use Rattle.std.specs.List.{list_all}
use Rattle.ada_events.specs.declared.event.Event.{Event}
use Rattle.ada_events.specs.declared.request.Request.{Request}
use Rattle.ada_events.specs.declared.request.Request.TheVariants.{Open, Create, Activate, Elaborated, Call, Wait, Delay, End, Close, Complete, Abort, Tick}
use Rattle.ada_events.specs.declared.names.TaskNo.{TaskNo}
use Rattle.ada_events.specs.declared.names.Entry.{Entry}
use Rattle.ada_events.specs.declared.names.Master.{Master}
use Rattle.ada_events.specs.declared.names.Master.TheVariants.{Body, Block}
use Rattle.ada_events.specs.Tasks.{has_task, moment}
use Rattle.ada_events.specs.Phases.{is_terminated, is_running}
use Rattle.ada_events.specs.Calls.{queue, count_of}
use Rattle.ada_events.specs.Forced.{task_no}
use Rattle.ada_events.specs.Asks.{asker, named_tasks}
use Rattle.ada_events.specs.Outcomes.{outcome_of}
use Rattle.ada_events.specs.Attributes.{is_callable, is_finished, count_refusal, own_count}
use Rattle.ada_standing.specs.Renaming.{Renaming, renamed_outcome}

-- the number of no task: a lawful journal has fewer
abbrev pub nobody : ℕ
nobody = 65535

-- the task that a request to the second journal names for a task of the first; nobody for one without a name
abbrev pub asked_task : Renaming → TaskNo → TaskNo
asked_task names t = task_no (unwrap_or (names.task t.0) nobody)

-- the same of masters; 0, which is no position, for a block without a name
unfoldable pub asked_master : Renaming → Master → Master
asked_master names (Body t) = Body (asked_task names t)
asked_master names (Block p) = Block (unwrap_or (names.position p) 0)

-- the request to the second journal that stands for one to the first
unfoldable pub renamed_request : Renaming → Request → Request
renamed_request names (Open by) = Open (asked_task names by)
renamed_request names (Create by master families) = Create (asked_task names by) (asked_master names master) families
renamed_request names (Activate by tasks) = Activate (asked_task names by) (map (asked_task names) tasks)
renamed_request names (Elaborated by ok) = Elaborated (asked_task names by) ok
renamed_request names (Call by callee entry patience) = Call (asked_task names by) (asked_task names callee) entry patience
renamed_request names (Wait by choices tail pick) = Wait (asked_task names by) choices tail pick
renamed_request names (Delay by duration) = Delay (asked_task names by) duration
renamed_request names (End by raised) = End (asked_task names by) raised
renamed_request names (Close by) = Close (asked_task names by)
renamed_request names (Complete by) = Complete (asked_task names by)
renamed_request names (Abort by tasks) = Abort (asked_task names by) (map (asked_task names) tasks)
renamed_request names (Tick now) = Tick now

-- the task has a name, or doesn't exist
abbrev pub is_kept : Renaming → List Event → ℕ → Bool
is_kept names journal task = not (has_task journal task) || is_some (names.task task)

-- each task that the request names has a name, or doesn't exist
unfoldable pub names_kept : Renaming → List Event → Request → Bool
names_kept names journal request =
    option_map_or (is_kept names journal) (asker request) true && list_all (λ (t : TaskNo). is_kept names journal t.0) (named_tasks request)

-- what is asked of the task u of the first journal, and of the task v of the second: the same answers
pub record AnswerAlike (old new : List Event) (names : Renaming) (u v : ℕ) : Type 0 where
  pub terminated : is_terminated new v ≡ is_terminated old u
  pub callable : is_callable new v ≡ is_callable old u
  pub running : is_running new v ≡ is_running old u
  pub outcome : renamed_outcome names (outcome_of old u) ≡ Some (outcome_of new v)
  pub queue : (entry : Entry) → map names.position (queue old u entry) ≡ map Some (queue new v entry)
  pub count : (entry : Entry) → count_of new v entry ≡ count_of old u entry
  pub count_refused : (entry : Entry) → count_refusal new v entry ≡ count_refusal old u entry
  pub own_count : (entry : Entry) → own_count new v entry ≡ own_count old u entry

-- what is asked of the whole of both journals, and of tasks that have names
pub record AnswersAlike (old new : List Event) (names : Renaming) : Type 0 where
  pub moments : moment new ≡ moment old
  pub finished : is_finished new ≡ is_finished old
  pub tasks : (u v : ℕ) → names.task u ≡ Some v → AnswerAlike old new names u v
