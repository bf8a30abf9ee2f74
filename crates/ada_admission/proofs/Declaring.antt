-- What isn't a task declares no entries.
use Rattle.std.proofs.Common.{◌≡◌, ℕ, ◌≤◌, List, [], refl}
use Rattle.ada_events.specs.declared.event.Event.{Event}
use Rattle.ada_events.specs.Tasks.{task_count, families_of}
use Rattle.ada_records.proofs.recording.Creations.{unmade_none}

pub undeclared : (journal : List Event) (task : ℕ) → task_count journal ≤ task → families_of journal task ≡ []
unfolding families_of
undeclared journal task beyond = rw (unmade_none journal task beyond) refl
