-- What a record says of its task where a step is decided.
use Rattle.std.specs.Prelude.{ℕ, Bool, not, ◌==◌, ◌&&◌, ◌||◌}
use Rattle.ada_records.specs.declared.record.Record.{Record}
use Rattle.ada_records.specs.RecordedStates.{has_ended_by}

-- the task is the caller of a rendezvous (9.5)
abbrev pub is_met_by : Record → Bool
is_met_by kept = not (kept.suspension.at == 0) && kept.suspension.joined

-- the task is to be halted (9.10)
abbrev pub is_to_halt_by : Record → Bool
is_to_halt_by kept = kept.stage.abnormal && not (has_ended_by kept) && not (is_met_by kept)

-- no call to the task can be served any more
abbrev pub is_uncallable_by : Record → Bool
is_uncallable_by kept = has_ended_by kept || kept.stage.abnormal

-- the task is suspended at the position, and no rendezvous began with it (9.5)
abbrev pub is_queued_by : Record → ℕ → Bool
is_queued_by kept at = kept.suspension.at == at && not kept.suspension.joined

-- the task has ended its activation (9.3), or has ended
abbrev pub is_done_by : Record → Bool
is_done_by kept = kept.stage.elaborated || has_ended_by kept
