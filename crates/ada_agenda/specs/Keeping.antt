-- Agendas that are kept as sets of numbers, one for each row of the forced steps, and keys that are put into them.
use Rattle.std.specs.Prelude.{◌≡◌, ℕ, ◌+◌, Bool, true, List, ◌∷◌, length}
use Rattle.std.specs.Option.{is_some}
use Rattle.ada_events.specs.declared.event.Event.{Event}
use Rattle.ada_events.specs.Lawful.{IsLawful}
use Rattle.ada_events.specs.Says.{start_in, delay_in, creation_in}
use Rattle.ada_events.specs.Tasks.{task_count}
use Rattle.ada_step_laws.specs.declared.row.Row.{Row}
use Rattle.ada_step_laws.specs.CalledTasks.{IsCallOf}
use Rattle.ada_step_laws.specs.Rows.{rank, IsAgenda}
use Rattle.ada_step_laws.specs.TouchedKeys.{is_uncallable}
use Rattle.ada_step_laws.specs.Kinds.{is_immediate_call}
use Rattle.ada_step_laws.specs.Held.{IsHeldAt}
use Rattle.ada_agenda.specs.Rows.{keeps}

-- the key is kept for the row
abbrev pub has_key : List (List ℕ) → Row → ℕ → Bool
has_key sets row key = keeps sets (rank row) key

-- the sets are an agenda of the journal
pub record IsAgendaOf (sets : List (List ℕ)) (journal : List Event) : Type 0 where
  pub covers : IsAgenda journal (has_key sets)

-- the later sets keep all that the earlier ones do
pub record Grows (old new : List (List ℕ)) : Type 0 where
  pub kept : (row : Row) (key : ℕ) → has_key old row key ≡ true → has_key new row key ≡ true

-- the later sets keep all that the earlier ones do, and each of these keys
pub record Puts (old new : List (List ℕ)) (Key : Row → ℕ → Type 0) : Type 0 where
  pub grows : Grows old new
  pub here : (row : Row) (key : ℕ) → Key row key → has_key new row key ≡ true

-- that key, in that row
pub data AsKey (at : Row) (k : ℕ) : Row → ℕ → Type 0 where
  itself : AsKey at k at k

-- these keys, where that is so
pub data When (so : Bool) (Key : Row → ℕ → Type 0) (row : Row) (key : ℕ) : Type 0 where
  holds_so : so ≡ true → Key row key → When so Key row key

-- an agenda of that journal was kept up with the event that comes next in it
abbrev pub KeepsUp : List Event → Event → List (List ℕ) → List (List ℕ) → Type 0
KeepsUp before event old new = IsLawful (event ∷ before) → IsAgendaOf old before → IsAgendaOf new (event ∷ before)

-- with any start of an activation, at a position (9.3)
abbrev pub KeepsUpWithStart : ℕ → List (List ℕ) → List (List ℕ) → Type 0
KeepsUpWithStart at old new =
    (event : Event) (before : List Event) → is_some (start_in event) ≡ true → at ≡ length before + 1 → KeepsUp before event old new

-- with any delay, at a position (9.6)
abbrev pub KeepsUpWithDelay : ℕ → List (List ℕ) → List (List ℕ) → Type 0
KeepsUpWithDelay at old new =
    (event : Event) (before : List Event) → is_some (delay_in event) ≡ true → at ≡ length before + 1 → KeepsUp before event old new

-- with any making of a task, where there were so many (9.1)
abbrev pub KeepsUpWithCreation : ℕ → List (List ℕ) → List (List ℕ) → Type 0
KeepsUpWithCreation tasks old new =
    (event : Event) (before : List Event) → is_some (creation_in event) ≡ true → tasks ≡ task_count before → KeepsUp before event old new

-- with any call at a position, of a task that is suspended at the wait, or at none; whether it is lost, as no call to the
-- task can be served, and whether it is given up (9.5, 9.7.2, 9.7.3)
abbrev pub KeepsUpWithCall : ℕ → ℕ → Bool → Bool → List (List ℕ) → List (List ℕ) → Type 0
KeepsUpWithCall call wait lost immediate old new =
    (event : Event) (before : List Event) (callee : ℕ) → IsCallOf event callee → call ≡ length before + 1 → IsHeldAt before callee wait
    → lost ≡ is_uncallable before callee → immediate ≡ is_immediate_call before event → KeepsUp before event old new
