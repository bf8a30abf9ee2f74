-- A behaviour as a program over a kernel's journal.
use Rattle.std.specs.Prelude.{ℕ, suc, ◌==◌, ◌&&◌, not, Bool, true, false, if◌then◌else◌, Option, Some, None, List, [], ◌∷◌, fold, map, slice_get}
use Rattle.std.specs.Option.{option_and_then, option_map, option_map_or, is_some}
use Rattle.std.specs.List.{list_any, range_with_len}
use Rattle.std.specs.Result.{result_ok}
use Rattle.ada_events.specs.declared.event.Event.{Event}
use Rattle.ada_events.specs.declared.request.Request.{Request}
use Rattle.ada_events.specs.declared.request.Request.TheVariants as request
use Rattle.ada_events.specs.declared.request.Request.TheVariants.{Tick}
use Rattle.ada_events.specs.declared.refusal.Refusal.{Refusal}
use Rattle.ada_events.specs.declared.outcome.Outcome.{Outcome}
use Rattle.ada_events.specs.declared.outcome.Outcome.TheVariants.{Accepted}
use Rattle.ada_events.specs.declared.names.TaskNo.{TaskNo}
use Rattle.ada_events.specs.Search.{is_number}
use Rattle.ada_events.specs.Tasks.{has_task, task_count}
use Rattle.ada_events.specs.Phases.{is_running, is_terminated}
use Rattle.ada_events.specs.Nests.{frame}
use Rattle.ada_events.specs.Outcomes.{outcome_of}
use Rattle.ada_events.specs.Attributes.{is_callable, own_count}
use Rattle.ada_events.specs.Forced.{task_no}
use Rattle.ada_standing.specs.Renaming.{from_both}
use Rattle.ada_waiting.specs.Reasons.{suspended_at}
use Rattle.ada_waiting.specs.Standstill.{first_due}
use Rattle.ada_schedules.specs.Schedules.{Program}
use Rattle.ada_behaviours.specs.declared.want.ObjectNo.{ObjectNo}
use Rattle.ada_behaviours.specs.declared.want.Action.{Action}
use Rattle.ada_behaviours.specs.declared.want.Action.TheVariants.{Open, Create, Activate, Elaborated, Call, Wait, Delay, End, Close, Complete, Abort}
use Rattle.ada_behaviours.specs.declared.want.Question.{Question}
use Rattle.ada_behaviours.specs.declared.want.Question.TheVariants.{Nothing, Callable, Terminated, Count}
use Rattle.ada_behaviours.specs.declared.want.Want.{Want}
use Rattle.ada_behaviours.specs.declared.want.Want.TheVariants as want
use Rattle.ada_behaviours.specs.declared.want.Want.TheVariants.{Act, Ask}
use Rattle.ada_behaviours.specs.declared.want.Move.{Move}
use Rattle.ada_behaviours.specs.declared.want.Move.TheVariants.{Go, Pass}
use Rattle.ada_behaviours.specs.Behaviours.{Behaviour}

-- the task of each object, by the numbers of the objects; none if it isn't made, or may not be named any more
abbrev pub Tasks : Type 0
Tasks = List (Option ℕ)

abbrev pub task_of : Tasks → ℕ → Option ℕ
task_of tasks object = option_and_then (λ found. found) (slice_get tasks object)

-- the tasks of several objects, if each has one
abbrev pub tasks_of : Tasks → List ObjectNo → Option (List TaskNo)
tasks_of tasks [] = Some []
tasks_of tasks (object ∷ objects) = from_both (λ t ts. task_no t ∷ ts) (task_of tasks object.0) (tasks_of tasks objects)

-- the task exists, and runs
abbrev pub runs : List Event → ℕ → Bool
runs journal task = has_task journal task && is_running journal task

-- it exists, and is terminated
abbrev pub is_gone : List Event → ℕ → Bool
is_gone journal task = has_task journal task && is_terminated journal task

-- it exists, and is callable
abbrev pub may_be_called : List Event → ℕ → Bool
may_be_called journal task = has_task journal task && is_callable journal task

-- ---- what is asked of the kernel

-- the request of a task for an action, with a pick; none if it names an object without a task
abbrev pub requested : List Event → Tasks → ℕ → ℕ → Action → Option Request
requested journal tasks task pick Open = Some (request.Open (task_no task))
requested journal tasks task pick (Create object families) = Some (request.Create (task_no task) (frame journal task) families)
requested journal tasks task pick (Activate objects) = option_map (request.Activate (task_no task)) (tasks_of tasks objects)
requested journal tasks task pick (Elaborated ok) = Some (request.Elaborated (task_no task) ok)
requested journal tasks task pick (Call callee entry patience) =
    option_map (λ other. request.Call (task_no task) (task_no other) entry patience) (task_of tasks callee.0)
requested journal tasks task pick (Wait choices tail) = Some (request.Wait (task_no task) choices tail pick)
requested journal tasks task pick (Delay duration) = Some (request.Delay (task_no task) duration)
requested journal tasks task pick (End raised) = Some (request.End (task_no task) raised)
requested journal tasks task pick Close = Some (request.Close (task_no task))
requested journal tasks task pick Complete = Some (request.Complete (task_no task))
requested journal tasks task pick (Abort objects) = option_map (request.Abort (task_no task)) (tasks_of tasks objects)

-- the object whose task an action makes
abbrev pub made_by : Action → Option ℕ
made_by (Create object families) = Some object.0
made_by _ = None

abbrev pub number : Bool → ℕ
number is = if is then 1 else 0

-- the answer to a question of a task, 0 or 1 of yes and no; none if it names an object without a task, or an entry that
-- the task doesn't have
abbrev pub answer_to : List Event → Tasks → ℕ → Question → Option ℕ
answer_to journal tasks task Nothing = Some 0
answer_to journal tasks task (Callable object) = option_map (λ other. number (may_be_called journal other)) (task_of tasks object.0)
answer_to journal tasks task (Terminated object) = option_map (λ other. number (is_gone journal other)) (task_of tasks object.0)
answer_to journal tasks task (Count entry) = result_ok (own_count journal task entry)

-- ---- what the kernel tells

-- a task is suspended at a position
abbrev pub is_held_at : List Event → ℕ → ℕ → Bool
is_held_at journal position task = is_number position (suspended_at journal task)

-- the object whose task is suspended at a position; how many objects there are, if there is none
abbrev pub held_object : List Event → Tasks → ℕ → ℕ
held_object journal [] position = 0
held_object journal (task ∷ tasks) position =
    if option_map_or (is_held_at journal position) task false then 0 else suc (held_object journal tasks position)

-- an outcome, in which the number of an object stands for its call
abbrev pub told : List Event → Tasks → Outcome → Outcome
told journal tasks (Accepted call choice) = Accepted (held_object journal tasks call) choice
told journal tasks outcome = outcome

-- ---- the program

-- what is left to do, with the variables, and which task each object has
pub record Rest (State : Type 0) : Type 0 where
  pub state : State
  pub tasks : Tasks

-- what an object has to do once the kernel let its task go on, or that is terminated
abbrev pub told_one : {State : Type 0} → Behaviour State → List Event → Tasks → State → ℕ → State
told_one behaviour journal tasks state object =
    elim (task_of tasks object) [
      | None ↦ state
      | Some task ↦
          if is_gone journal task then behaviour.ended state object
          else (if runs journal task then behaviour.let_go state object (told journal tasks (outcome_of journal task)) else state)
    ]

-- and what all of them have to do, one after another
abbrev pub told_all : {State : Type 0} → Behaviour State → List Event → Tasks → State → State
told_all behaviour journal tasks state = fold (told_one behaviour journal tasks) state (range_with_len 0 behaviour.objects)

-- the tasks of the objects from one on that may still be named
abbrev pub named_only : {State : Type 0} → Behaviour State → State → ℕ → Tasks → Tasks
named_only behaviour state object [] = []
named_only behaviour state object (task ∷ tasks) =
    (if behaviour.names state object then task else None) ∷ named_only behaviour state (suc object) tasks

-- the tasks of the objects from one on, once one of them has its task
abbrev pub with_made : Option ℕ → ℕ → ℕ → Tasks → Tasks
with_made made task object [] = []
with_made made task object (old ∷ tasks) = (if is_number object made then Some task else old) ∷ with_made made task (suc object) tasks

-- what is left to do, with the tasks that may still be named
abbrev pub left_with : {State : Type 0} → Behaviour State → Tasks → State → Rest State
left_with behaviour tasks state = record { state = state; tasks = named_only behaviour state 0 tasks }

-- what is left to do in a journal, once the tasks were told what became of them
abbrev pub settled_in : {State : Type 0} → Behaviour State → List Event → Tasks → State → Rest State
settled_in behaviour journal tasks state = left_with behaviour tasks (told_all behaviour journal tasks state)

-- the task of an object, if it runs
abbrev pub running_of : List Event → Tasks → ℕ → Option ℕ
running_of journal tasks object = option_and_then (λ task. if runs journal task then Some task else None) (task_of tasks object)

-- what a task asks of the kernel, if it wants to act
abbrev pub asked_for : List Event → Tasks → ℕ → ℕ → Want → Option Request
asked_for journal tasks pick task (Act action) = requested journal tasks task pick action
asked_for journal tasks pick task _ = None

abbrev pub is_idle : Want → Bool
is_idle want.Nothing = true
is_idle _ = false

-- an object wants something, and its task runs
abbrev pub is_busy : {State : Type 0} → Behaviour State → List Event → Rest State → ℕ → Bool
is_busy behaviour journal rest object = is_some (running_of journal rest.tasks object) && not (is_idle (behaviour.wants rest.state object 0))

-- nobody who runs wants anything
abbrev pub all_idle : {State : Type 0} → Behaviour State → List Event → Rest State → Bool
all_idle behaviour journal rest = not (list_any (is_busy behaviour journal rest) (range_with_len 0 behaviour.objects))

-- what a move asks for: an object acts whose task runs; or time passes, if nobody wants anything
abbrev pub asked_by : {State : Type 0} → Behaviour State → List Event → Rest State → Move → Option Request
asked_by behaviour journal rest (Go object pick) =
    option_and_then (λ task. asked_for journal rest.tasks pick task (behaviour.wants rest.state object.0 pick)) (running_of journal rest.tasks object.0)
asked_by behaviour journal rest Pass = if all_idle behaviour journal rest then option_map Tick (first_due journal) else None

-- the object whose task a want makes
abbrev pub made_in : Want → Option ℕ
made_in (Act action) = made_by action
made_in _ = None

-- what is left after a move that was accepted
abbrev pub left_after : {State : Type 0} → Behaviour State → List Event → Rest State → Move → List Event → Rest State
left_after behaviour journal rest (Go object pick) new =
    settled_in behaviour new (with_made (made_in (behaviour.wants rest.state object.0 pick)) (task_count journal) 0 rest.tasks)
    (behaviour.accepted rest.state object.0 pick)
left_after behaviour journal rest Pass new = settled_in behaviour new rest.tasks rest.state

-- and after one that was refused
abbrev pub left_refused : {State : Type 0} → Behaviour State → Rest State → Move → Refusal → Rest State
left_refused behaviour rest (Go object pick) cause = left_with behaviour rest.tasks (behaviour.refused rest.state object.0 pick cause)
left_refused behaviour rest Pass cause = rest

-- what is left once a task has the answer to a question
abbrev pub left_answered : {State : Type 0} → Behaviour State → List Event → Rest State → ℕ → ℕ → Want → Option (Rest State)
left_answered behaviour journal rest object task (Ask question) =
    option_map (λ answer. left_with behaviour rest.tasks (behaviour.answered rest.state object answer)) (answer_to journal rest.tasks task question)
left_answered behaviour journal rest object task _ = None

-- what is left after a move that asks for nothing
abbrev pub left_alone : {State : Type 0} → Behaviour State → List Event → Rest State → Move → Option (Rest State)
left_alone behaviour journal rest (Go object pick) =
    option_and_then (λ task. left_answered behaviour journal rest object.0 task (behaviour.wants rest.state object.0 pick))
    (running_of journal rest.tasks object.0)
left_alone behaviour journal rest Pass = None

-- at the beginning the main program alone has its task
abbrev pub first_task : ℕ → Option ℕ
first_task object = if object == 0 then Some 0 else None

abbrev pub behaving : {State : Type 0} → Behaviour State → Program (Rest State) Move
behaving {State} behaviour = record {
  start = record { state = behaviour.start; tasks = map first_task (range_with_len 0 behaviour.objects) };
  asks = asked_by behaviour;
  after = left_after behaviour;
  refused = left_refused behaviour;
  alone = left_alone behaviour;
}
