use Rattle.ada_records.proofs.phase_changes.OnePhase.{holds_change_one_phase, going_changes_one_phase}
use Rattle.ada_records.proofs.phase_changes.OnePhaseKinds.{releases_change_one_phase, completions_change_one_phase}
use Rattle.ada_records.proofs.table_laws.one_phase_changes.Goals as goal

pub returns-clause-holds : goal.returns-clause-holds
returns-clause-holds c = holds_change_one_phase

pub returns-clause-releases : goal.returns-clause-releases
returns-clause-releases c = releases_change_one_phase

pub returns-clause-completes : goal.returns-clause-completes
returns-clause-completes c = completions_change_one_phase

pub returns-clause-goes : goal.returns-clause-goes
returns-clause-goes c = going_changes_one_phase
