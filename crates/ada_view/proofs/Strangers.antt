-- Rows that go by tasks give nothing at a number of no task.
use Rattle.std.proofs.Common.{◌≡◌, ℕ, ◌≤◌, None, List, refl}
use Rattle.std.proofs.lemmas.Bool.{le-ltb}
use Rattle.ada_events.specs.declared.event.Event.{Event}
use Rattle.ada_events.specs.Tasks.{task_count}
use Rattle.ada_step_laws.specs.declared.row.Row.TheVariants.{Halting, Terminating, QuittingBody}
use Rattle.ada_step_laws.specs.Rows.{step_at}

pub no_halt : (journal : List Event) (key : ℕ) → task_count journal ≤ key → None ≡ step_at journal Halting key
unfolding step_at
no_halt journal key beyond = rw (le-ltb key (task_count journal) beyond) refl

pub no_end : (journal : List Event) (key : ℕ) → task_count journal ≤ key → None ≡ step_at journal Terminating key
unfolding step_at
no_end journal key beyond = rw (le-ltb key (task_count journal) beyond) refl

pub no_quitting : (journal : List Event) (key : ℕ) → task_count journal ≤ key → None ≡ step_at journal QuittingBody key
unfolding step_at
no_quitting journal key beyond = rw (le-ltb key (task_count journal) beyond) refl
