-- What a record tells of its task. Laws.
use Rattle.std.specs.Prelude.{◌≡◌, ℕ, Bool, not, ◌==◌, ◌&&◌, ◌||◌, if◌then◌else◌, List}
use Rattle.ada_events.specs.declared.event.Event.{Event}
use Rattle.ada_events.specs.declared.outcome.Outcome.{Outcome}
use Rattle.ada_events.specs.declared.outcome.Outcome.TheVariants.{Dead, Done}
use Rattle.ada_events.specs.Phases.{has_ended, is_running}
use Rattle.ada_events.specs.Attributes.{is_callable}
use Rattle.ada_events.specs.Outcomes.{outcome_of}
use Rattle.ada_records.specs.declared.record.Record.{Record}
use Rattle.ada_records.specs.Records.{IsRecordOf}

abbrev pub has_ended_by : Record → Bool
has_ended_by kept = kept.stage.completed || kept.stage.terminated

abbrev pub is_running_by : Record → Bool
is_running_by kept = kept.stage.started && not (has_ended_by kept) && kept.suspension.at == 0

abbrev pub is_callable_by : Record → Bool
is_callable_by kept = not (has_ended_by kept) && not kept.stage.abnormal

abbrev pub outcome_by : Record → Outcome
outcome_by kept = if kept.stage.terminated then Dead else (if kept.stage.completed then Done else kept.suspension.outcome)

-- a right record tells whether its task has ended, runs and is callable, and its outcome
pub record IsTelling (journal : List Event) (task : ℕ) (kept : Record) : Type 0 where
  pub ended : has_ended_by kept ≡ has_ended journal task
  pub runs : is_running_by kept ≡ is_running journal task
  pub callable : is_callable_by kept ≡ is_callable journal task
  pub outcome : outcome_by kept ≡ outcome_of journal task

abbrev pub RecordsTell : Type 0
RecordsTell =
    (journal : List Event) (task : ℕ) (kept : Record) → IsRecordOf journal task kept → IsTelling journal task kept
