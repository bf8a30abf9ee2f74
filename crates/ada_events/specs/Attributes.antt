-- The attributes of tasks and entries (9.9), as a task may ask for them.
use Rattle.std.specs.Prelude.{ℕ, Bool, not, ◌||◌, Option, Some, None, Result, Ok, Err, List, [], ◌∷◌}
use Rattle.ada_events.specs.declared.event.Event.{Event}
use Rattle.ada_events.specs.declared.names.Entry.{Entry}
use Rattle.ada_events.specs.declared.refusal.Refusal.{Refusal}
use Rattle.ada_events.specs.declared.refusal.Refusal.TheVariants.{UnknownTask, NotRunning, NoSuchFamily, ConstraintError}
use Rattle.ada_events.specs.Tasks.{has_task}
use Rattle.ada_events.specs.Phases.{has_ended, is_terminated, is_abnormal, is_running}
use Rattle.ada_events.specs.Calls.{count_of}
use Rattle.ada_events.specs.Refusals.{cause, first_cause, lacks_family, is_outside}

-- the attribute CALLABLE (9.9): neither completed, nor terminated, nor abnormal
unfoldable pub is_callable : List Event → ℕ → Bool
is_callable journal task = not (has_ended journal task || is_abnormal journal task)

-- the main program is terminated
unfoldable pub is_finished : List Event → Bool
is_finished journal = is_terminated journal 0

-- the cause for which a task may not ask for COUNT of an entry of its own, or none
unfoldable pub count_refusal : List Event → ℕ → Entry → Option Refusal
count_refusal journal by entry =
    first_cause
    (cause (not (has_task journal by)) UnknownTask
    ∷ cause (not (is_running journal by)) NotRunning
    ∷ cause (lacks_family journal by entry) NoSuchFamily
    ∷ cause (is_outside journal by entry) ConstraintError
    ∷ [])

-- COUNT of an entry of the asking task's own, or the cause for which it may not ask
unfoldable pub own_count : List Event → ℕ → Entry → Result ℕ Refusal
own_count journal by entry =
    elim (count_refusal journal by entry) [ None ↦ Ok (count_of journal by entry) | Some refused ↦ Err refused ]
