-- An aborted task isn't callable any more, whatever is forced behind the abort.
use Rattle.std.proofs.Common.{◌≡◌, ℕ, Bool, true, false, not, ◌||◌, ◌<◌, None, List, [], ◌∷◌, arith, refl, ap}
use Rattle.std.specs.List.{list_any}
use Rattle.std.proofs.lemmas.Bool.{or_left, or_right, or_parts, ltb-true, not-false}
use Rattle.ada_events.specs.declared.event.Event.{Event}
use Rattle.ada_events.specs.declared.event.Event.TheVariants.{Aborted}
use Rattle.ada_events.specs.declared.request.Request.TheVariants.{Abort}
use Rattle.ada_events.specs.declared.names.TaskNo.{TaskNo}
use Rattle.ada_events.specs.Asks.{asker, asked_event, named_tasks}
use Rattle.ada_events.specs.Refusals.{refusal, names_unknown_task}
use Rattle.ada_events.specs.Says.{aborted_in}
use Rattle.ada_events.specs.Search.{is_some_and}
use Rattle.ada_events.specs.Tasks.{task_count, has_task}
use Rattle.ada_events.specs.Phases.{has_ended, is_completed, is_terminated, is_abnormal}
use Rattle.ada_events.specs.Attributes.{is_callable}
use Rattle.ada_events.specs.Lawful.{Forces}
use Rattle.ada_events.specs.Lawful.Forces.{nothing, one_more}
use Rattle.ada_events.specs.Steps.{IsAccepted}
use Rattle.ada_laws.proofs.asking.Accepting.{is_accepted}
use Rattle.ada_laws.proofs.held.LastingLaws.{terminated_tasks_stay_so, uncallable_tasks_stay_so}

forced_steps_keep : (from new : List Event) (task : ℕ) → Forces from new → is_callable from task ≡ false → is_callable new task ≡ false
forced_steps_keep from _ task nothing was = was
forced_steps_keep from _ task (one_more {journal} {event} forces forced) was =
    uncallable_tasks_stay_so event journal task (forced_steps_keep from journal task forces was)

-- the task that an accepted abort names exists
named_exists : (journal : List Event) (by task : TaskNo) → refusal journal (Abort by (task ∷ [])) ≡ None → task.0 < task_count journal
unfolding names_unknown_task named_tasks
named_exists journal by task accepted =
    let known = (is_accepted journal (Abort by (task ∷ [])) accepted).tasks_known in
    let fails = (or_parts (is_some_and (asker (Abort by (task ∷ []))) (λ t. not (has_task journal t)))
    (list_any (λ (t : TaskNo). not (has_task journal t.0)) (task ∷ [])) known).1 in
    let here = (or_parts (not (has_task journal task.0)) false fails).0 in
    ltb-true task.0 (task_count journal) (not-false (has_task journal task.0) here)

-- one that isn't terminated becomes abnormal
becomes_abnormal : (journal : List Event) (by task : TaskNo) → task.0 < task_count journal → is_terminated journal task.0 ≡ false
    → is_abnormal (Aborted by (task ∷ []) ∷ journal) task.0 ≡ true
unfolding is_abnormal aborted_in
becomes_abnormal journal by task exists lives = grind arith

terminated_or_abnormal : (was terminated completed abnormal : Bool) → (was ≡ true → terminated ≡ true) → (was ≡ false → abnormal ≡ true)
    → not ((completed || terminated) || abnormal) ≡ false
terminated_or_abnormal true terminated completed abnormal stays becomes =
    ap not (or_left (completed || terminated) abnormal (or_right completed terminated (stays refl)))
terminated_or_abnormal false terminated completed abnormal stays becomes =
    ap not (or_right (completed || terminated) abnormal (becomes refl))

abort_stops : (journal : List Event) (by task : TaskNo) → task.0 < task_count journal → is_callable (Aborted by (task ∷ []) ∷ journal) task.0 ≡ false
unfolding is_callable has_ended
abort_stops journal by task exists =
    let event = Aborted by (task ∷ []) in
    terminated_or_abnormal (is_terminated journal task.0) (is_terminated (event ∷ journal) task.0) (is_completed (event ∷ journal) task.0)
    (is_abnormal (event ∷ journal) task.0)
    (terminated_tasks_stay_so event journal task.0)
    (becomes_abnormal journal by task exists)

pub stopped : (old new : List Event) (by task : TaskNo) (at : ℕ) → IsAccepted old (Abort by (task ∷ [])) at new → is_callable new task.0 ≡ false
unfolding asked_event
stopped old new by task at accepted =
    forced_steps_keep (asked_event old (Abort by (task ∷ [])) ∷ old) new task.0 accepted.after.forces
    (abort_stops old by task (named_exists old by task accepted.unrefused))
