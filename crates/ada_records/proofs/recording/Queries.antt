-- What a record tells of its task, and the record of the main program.
use Rattle.std.proofs.Common.{◌≡◌, ℕ, zero, suc, ◌<◌, Bool, true, false, cond, not, ◌&&◌, ◌||◌, eqb, List, [], ◌∷◌, length, sym, refl, ap, ◌∙◌, arith, Some}
use Rattle.std.proofs.Common.{subst}
use Rattle.std.proofs.lemmas.Bool.{ne_eqb}
use Rattle.ada_events.specs.declared.event.Event.{Event}
use Rattle.ada_events.specs.declared.outcome.Outcome.TheVariants.{Dead, Done, Nothing}
use Rattle.ada_events.specs.Search.{any_event, event_at}
use Rattle.ada_events.specs.Tasks.{task_count, creation_of}
use Rattle.ada_events.specs.Phases.{has_start, is_started, is_elaborated, has_failed, is_completed, has_ended, is_abnormal, is_terminated, is_suspended}
use Rattle.ada_events.specs.Phases.{is_running}
use Rattle.ada_events.specs.Calls.{is_met}
use Rattle.ada_events.specs.Termination.{is_at_open_terminate}
use Rattle.ada_events.specs.Attributes.{is_callable}
use Rattle.ada_events.specs.Outcomes.{last_given, outcome_of}
use Rattle.ada_laws.proofs.held.Suspending.{is_suspended-from, is_suspended-at}
use Rattle.ada_records.specs.declared.record.Record.{Record}
use Rattle.ada_records.specs.Records.{freed, no_stage, record_at, IsRecordOf, AreRecords}
use Rattle.ada_step_laws.specs.Latest.{latest_outcome}
use Rattle.ada_records.proofs.recording.Creations.{creation_stands}
use Rattle.ada_step_laws.proofs.changing.Existing.{positive}
use Rattle.ada_step_laws.specs.Held.{IsHeldAt}
use Rattle.ada_records.specs.RecordedStates.{RecordsTell}

-- the main program's record at first
abbrev pub main_record : Record
main_record = record { suspension = freed Nothing; stage = record no_stage { started = true; elaborated = true }; created = 0 }

main_is : IsRecordOf [] 0 main_record
unfolding creation_of event_at is_suspended any_event last_given has_start is_started is_elaborated has_failed is_completed is_abnormal is_terminated
main_is = record {
  suspension = record {
    at = record { free = λ _. refl; held = λ some. absurd (omega (arith, some)) };
    joined = λ some. absurd (omega (arith, some));
    quittable = refl;
    outcome = refl;
  };
  stage = record { named = refl; started = refl; elaborated = refl; failed = refl; completed = refl; abnormal = refl; terminated = refl };
  created = record { stands = refl; within = omega arith };
}

pub main_records : (r : Record) → r ≡ main_record → AreRecords (r ∷ []) []
unfolding task_count
main_records r is = record { many = refl; each = λ task below. of_task task below }
  where
    of_task : (task : ℕ) → task < length (r ∷ []) → IsRecordOf [] task (record_at (r ∷ []) task)
    of_task zero below = rw is main_is
    of_task (suc n) below = absurd (omega (arith, below))

tells_ended : (journal : List Event) (task : ℕ) (kept : Record) → IsRecordOf journal task kept
    → (kept.stage.completed || kept.stage.terminated) ≡ has_ended journal task
unfolding has_ended
tells_ended journal task kept is = rw (is.stage.completed, is.stage.terminated) refl

-- a task is suspended where its record has a position
pub tells_suspended : (journal : List Event) (task at : ℕ) → IsHeldAt journal task at → is_suspended journal task ≡ not (eqb at 0)
tells_suspended journal task zero held = held.free refl
tells_suspended journal task (suc n) held =
    is_suspended-from journal task (suc n) (held.held (omega arith)) ∙ ap not (sym (ne_eqb (suc n) 0 (λ same. omega (arith, same))))

running_bits : (s e z : Bool) → (s && not e && z) ≡ (s && not e && not (not z))
running_bits s e true = refl
running_bits s e false = refl

tells_running : (journal : List Event) (task : ℕ) (kept : Record) (ended : Bool) → IsRecordOf journal task kept → ended ≡ has_ended journal task
    → (kept.stage.started && not ended && eqb kept.suspension.at 0) ≡ is_running journal task
unfolding is_running
tells_running journal task kept ended is same =
    rw (same, is.stage.started, tells_suspended journal task kept.suspension.at is.suspension.at)
    (running_bits (is_started journal task) (has_ended journal task) (eqb kept.suspension.at 0))

callable_bits : (e a : Bool) → (not e && not a) ≡ not (e || a)
callable_bits true a = refl
callable_bits false a = refl

tells_callable : (journal : List Event) (task : ℕ) (kept : Record) (ended : Bool) → IsRecordOf journal task kept → ended ≡ has_ended journal task
    → (not ended && not kept.stage.abnormal) ≡ is_callable journal task
unfolding is_callable
tells_callable journal task kept ended is same =
    rw (same, is.stage.abnormal) (callable_bits (has_ended journal task) (is_abnormal journal task))

tells_outcome : (journal : List Event) (task : ℕ) (kept : Record) → IsRecordOf journal task kept
    → cond kept.stage.terminated Dead (cond kept.stage.completed Done kept.suspension.outcome) ≡ outcome_of journal task
unfolding outcome_of
tells_outcome journal task kept is = rw (is.stage.terminated, is.stage.completed, is.suspension.outcome) refl

pub records_tell : RecordsTell
records_tell journal task kept is = record {
  ended = tells_ended journal task kept is;
  runs = tells_running journal task kept (kept.stage.completed || kept.stage.terminated) is (tells_ended journal task kept is);
  callable = tells_callable journal task kept (kept.stage.completed || kept.stage.terminated) is (tells_ended journal task kept is);
  outcome = tells_outcome journal task kept is;
}

-- there is a right record of each task
pub record_exists : (journal : List Event) (task : ℕ) → (r : Record) × IsRecordOf journal task r
record_exists journal task =
    let (at, held) = place (is_suspended journal task) refl in
    let creation = creation_stands journal task in (
      record {
        suspension = record {
          at = at;
          joined = is_met journal at;
          quittable = is_at_open_terminate journal task
              && not (has_ended journal task);
          outcome = latest_outcome journal task;
        };
        stage = record {
          named = has_start journal task;
          started = is_started journal task;
          elaborated = is_elaborated journal task;
          failed = has_failed journal
              task;
          completed = is_completed journal task;
          abnormal = is_abnormal journal task;
          terminated = is_terminated journal task;
        };
        created = creation.0;
      },
      record {
        suspension = record { at = held; joined = λ some. refl; quittable = refl; outcome = refl };
        stage = record { named = refl; started = refl; elaborated = refl; failed = refl; completed = refl; abnormal = refl; terminated = refl };
        created = creation.1;
      },
    )
  where
    place : (b : Bool) → is_suspended journal task ≡ b → (at : ℕ) × IsHeldAt journal task at
    place false free = (0, record { free = λ _. free; held = λ some. absurd (omega (arith, some)) })
    place true suspended =
        let (p, held) = is_suspended-at journal task suspended in (
          p,
          record {
            free = λ none. absurd (positive journal held.event (subst (λ (n : ℕ). event_at journal n ≡ Some held.event) none held.stands));
            held =
                λ some. held;
          },
        )
