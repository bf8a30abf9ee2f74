-- A law of dependents (9.4), as a property of a journal.
use Rattle.std.specs.Prelude.{◌≡◌, ℕ, true, List}
use Rattle.ada_events.specs.declared.event.Event.{Event}
use Rattle.ada_events.specs.declared.names.TaskNo.{TaskNo}
use Rattle.ada_events.specs.declared.names.Master.TheVariants.{Body}
use Rattle.ada_events.specs.Masters.{depends_on}
use Rattle.ada_events.specs.Phases.{is_terminated}

-- all that depend on the body of a terminated task are terminated
abbrev pub ATerminatedBodyHasNoLiveDependent : List Event → Type 0
ATerminatedBodyHasNoLiveDependent journal =
    (task : TaskNo) (dependent : ℕ) → is_terminated journal task.0 ≡ true → depends_on journal dependent (Body task) ≡ true
    → is_terminated journal dependent ≡ true
