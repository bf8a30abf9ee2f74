-- What has become of a task: elaborated (9.3), completed, terminated (9.4), abnormal (9.10), started,
-- suspended, running.
use Rattle.std.specs.Prelude.{ℕ, Bool, false, not, ◌==◌, ◌&&◌, ◌||◌, List, [], ◌∷◌}
use Rattle.std.specs.List.{list_any}
use Rattle.ada_events.specs.declared.event.Event.{Event}
use Rattle.ada_events.specs.declared.names.TaskNo.{TaskNo}
use Rattle.ada_events.specs.declared.names.Master.TheVariants.{Body}
use Rattle.ada_events.specs.Search.{is_number, is_some_and, any_event}
use Rattle.ada_events.specs.Says.{elaborated_in, failed_in, completed_in, gone_in, quit_in, aborted_in, started_in, held_in, released_in}
use Rattle.ada_events.specs.Tasks.{has_task}
use Rattle.ada_events.specs.Masters.{depends_on}

-- whether a list names a task
abbrev pub lists_task : ℕ → List TaskNo → Bool
lists_task task = list_any (λ (t : TaskNo). t.0 == task)

-- a start names the task (9.3)
unfoldable pub has_start : List Event → ℕ → Bool
has_start journal task = list_any (λ (e : Event). lists_task task (started_in e)) journal

-- the task has ended its activation, or is the main program (9.3)
unfoldable pub is_elaborated : List Event → ℕ → Bool
is_elaborated journal task = task == 0 || list_any (λ (e : Event). is_number task (elaborated_in e)) journal

-- the task's activation ended by an exception (9.3)
unfoldable pub has_failed : List Event → ℕ → Bool
has_failed journal task = list_any (λ (e : Event). is_number task (failed_in e)) journal

-- the task's body is completed (9.4)
unfoldable pub is_completed : List Event → ℕ → Bool
is_completed journal task = list_any (λ (e : Event). is_number task (completed_in e)) journal

-- the task is terminated (9.4): by itself, or together with all that depend on a master on which it
-- depended then
unfoldable pub is_terminated : List Event → ℕ → Bool
is_terminated [] task = false
is_terminated (event ∷ before) task =
    (is_number task (gone_in event) || is_some_and (quit_in event) (depends_on before task))
    || is_terminated before task

-- the task is completed or terminated
unfoldable pub has_ended : List Event → ℕ → Bool
has_ended journal task = is_completed journal task || is_terminated journal task

-- the task is abnormal (9.10): an abort named it, or a task on whose body it depended then, when it
-- wasn't terminated
unfoldable pub is_abnormal : List Event → ℕ → Bool
is_abnormal [] task = false
is_abnormal (event ∷ before) task =
    (list_any (λ (t : TaskNo). t.0 == task || depends_on before task (Body t)) (aborted_in event)
    && has_task before task && not (is_terminated before task))
    || is_abnormal before task

-- the call, wait, delay, start or close at a position is released
unfoldable pub is_released : List Event → ℕ → Bool
is_released journal position = list_any (λ (e : Event). is_number position (released_in e)) journal

-- the task is held up by a call, wait, delay, start or close that isn't released, and hasn't ended
unfoldable pub is_suspended : List Event → ℕ → Bool
is_suspended journal task =
    any_event (λ p e. is_number task (held_in e) && not (is_released journal p)) journal
    && not (has_ended journal task)

-- the task's activation was started when it hadn't ended, or it is the main program (9.3)
unfoldable pub is_started : List Event → ℕ → Bool
is_started [] task = task == 0
is_started (event ∷ before) task =
    (lists_task task (started_in event) && not (has_ended before task)) || is_started before task

-- the task is started, hasn't ended and isn't suspended
unfoldable pub is_running : List Event → ℕ → Bool
is_running journal task =
    is_started journal task && not (has_ended journal task) && not (is_suspended journal task)
