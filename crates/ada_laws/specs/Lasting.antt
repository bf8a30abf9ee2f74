-- What lasts: what holds of a journal and of every journal that begins with it.
use Rattle.std.specs.Prelude.{◌≡◌, ℕ, true, false, ◌≤ℤ◌, List, ◌∷◌}
use Rattle.ada_events.specs.declared.event.Event.{Event}
use Rattle.ada_events.specs.Tasks.{moment}
use Rattle.ada_events.specs.Phases.{is_completed, is_terminated}
use Rattle.ada_events.specs.Attributes.{is_callable}
use Rattle.ada_events.specs.Lawful.{IsLawful}

-- a terminated task stays terminated, whatever event follows
abbrev pub TerminatedTasksStaySo : Type 0
TerminatedTasksStaySo =
    (event : Event) (journal : List Event) (task : ℕ) → is_terminated journal task ≡ true → is_terminated (event ∷ journal) task ≡ true

-- a completed task stays completed, whatever event follows
abbrev pub CompletedTasksStaySo : Type 0
CompletedTasksStaySo =
    (event : Event) (journal : List Event) (task : ℕ) → is_completed journal task ≡ true → is_completed (event ∷ journal) task ≡ true

-- a task that isn't callable never becomes callable again, whatever event follows
abbrev pub UncallableTasksStaySo : Type 0
UncallableTasksStaySo =
    (event : Event) (journal : List Event) (task : ℕ) → is_callable journal task ≡ false → is_callable (event ∷ journal) task ≡ false

-- in a lawful journal the moment never goes back
abbrev pub MomentsNeverGoBack : Type 0
MomentsNeverGoBack = (event : Event) (journal : List Event) → IsLawful (event ∷ journal) → moment journal ≤ℤ moment (event ∷ journal)
