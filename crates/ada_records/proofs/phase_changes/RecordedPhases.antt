-- A right record tells its task's phase.
use Rattle.std.proofs.Common.{◌≡◌, Bool, true, false, cond, not, ◌&&◌, ◌||◌, eqb, refl}
use Rattle.ada_events.specs.Phases.{is_started, is_completed, is_terminated, has_ended, is_running}
use Rattle.ada_events.specs.Termination.{is_at_open_terminate}
use Rattle.ada_records.proofs.recording.Queries.{tells_suspended}
use Rattle.ada_tables.specs.declared.phase.Phase.TheVariants.{Unstarted, Active, Held, Quittable, Completed, Terminated}
use Rattle.ada_records.specs.RecordedPhases.{RecordsTellPhases}

bits : (t c z s q o : Bool) → q ≡ (o && not (c || t))
    → cond t Terminated (cond c Completed (cond z (cond s Active Unstarted) (cond q Quittable Held)))
    ≡ cond t Terminated (cond c Completed (cond (not z) (cond o Quittable Held) (cond (s && not (c || t) && not (not z)) Active Unstarted)))
bits true c z s q o is = refl
bits false true z s q o is = refl
bits false false true true q o is = refl
bits false false true false q o is = refl
bits false false false s q true is = rw is refl
bits false false false s q false is = rw is refl

pub records_tell_phases : RecordsTellPhases
unfolding is_running has_ended
records_tell_phases journal task kept is =
    rw (is.stage.terminated, is.stage.completed, is.stage.started, tells_suspended journal task kept.suspension.at is.suspension.at)
    (bits (is_terminated journal task) (is_completed journal task) (eqb kept.suspension.at 0) (is_started journal task) kept.suspension.quittable
    (is_at_open_terminate journal task) is.suspension.quittable)
