-- What becomes of what is kept of how far a task has come by one more event.
use Rattle.std.proofs.Common.{◌≡◌, ℕ, Bool, true, false, not, ◌&&◌, ◌||◌, eqb, List, ◌∷◌, refl, ap}
use Rattle.std.specs.List.{list_any}
use Rattle.ada_events.specs.declared.event.Event.{Event}
use Rattle.ada_events.specs.Search.{is_number, is_some_and}
use Rattle.ada_events.specs.Says.{started_in, elaborated_in, failed_in, completed_in, aborted_in, gone_in, quit_in}
use Rattle.ada_events.specs.Tasks.{has_task}
use Rattle.ada_events.specs.Masters.{depends_on}
use Rattle.ada_events.specs.Phases.{lists_task, has_start, is_started, is_elaborated, has_failed, is_completed, has_ended, is_abnormal, is_terminated}
use Rattle.ada_records.specs.declared.record.Stage.{Stage}
use Rattle.ada_records.specs.Records.{IsStageOf, is_hit}
use Rattle.ada_step_laws.proofs.changing.Saying.{IsPlain}

-- what an event makes of it
abbrev pub stage_after : Event → List Event → ℕ → Stage → Stage
stage_after event before task kept = record {
  named = lists_task task (started_in event) || kept.named;
  started = (lists_task task (started_in event) && not (kept.completed || kept.terminated)) || kept.started;
  elaborated = is_number task (elaborated_in event) || kept.elaborated;
  failed = is_number task (failed_in event) || kept.failed;
  completed = is_number task (completed_in event) || kept.completed;
  abnormal = (is_hit before (aborted_in event) task && has_task before task && not kept.terminated) || kept.abnormal;
  terminated = (is_number task (gone_in event) || is_some_and (quit_in event) (depends_on before task)) || kept.terminated;
}

or_swap : (a b c : Bool) → (a || (b || c)) ≡ (b || (a || c))
or_swap true true c = refl
or_swap true false c = refl
or_swap false b c = refl

pub stage_more : (event : Event) (before : List Event) (task : ℕ) (kept : Stage) → IsStageOf before task kept
    → IsStageOf (event ∷ before) task (stage_after event before task kept)
unfolding has_start is_started is_elaborated has_failed is_completed has_ended is_abnormal is_terminated
stage_more event before task kept old = record {
  named = ap (λ (b : Bool). lists_task task (started_in event) || b) old.named;
  started = rw (old.completed, old.terminated, old.started) refl;
  elaborated =
      rw old.elaborated
      (or_swap (is_number task (elaborated_in event)) (eqb task 0) (list_any (λ (e : Event). is_number task (elaborated_in e)) before));
  failed = ap (λ (b : Bool). is_number task (failed_in event) || b) old.failed;
  completed = ap (λ (b : Bool). is_number task (completed_in event) || b) old.completed;
  abnormal = rw (old.terminated, old.abnormal) refl;
  terminated = rw old.terminated refl;
}

-- an event that only holds somebody up or releases something changes nothing in it
pub stage_plain : (event : Event) (before : List Event) (task : ℕ) (kept : Stage) → IsPlain event → stage_after event before task kept ≡ kept
stage_plain event before task kept plain =
    rw (plain.starts, plain.quiet.elaborates, plain.quiet.fails, plain.quiet.completes, plain.quiet.aborts, plain.quiet.goes, plain.quiet.quits) refl
