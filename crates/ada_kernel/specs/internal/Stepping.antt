-- Beginning the answer to a request, and taking the step that a row of the forced steps gives at a key.
use Rattle.std.specs.Prelude.{◌≡◌, ℕ, ◌<◌, ◌≤◌, ◌+◌, Bool, true, false, Some, None, List, ◌∷◌}
use Rattle.ada_events.specs.declared.event.Event.{Event}
use Rattle.ada_events.specs.Forced.{forced}
use Rattle.ada_events.specs.Journals.{Kept}
use Rattle.ada_events.specs.Lawful.{IsLawful, IsSettled}
use Rattle.ada_step_laws.specs.declared.row.Row.{Row}
use Rattle.ada_step_laws.specs.Rows.{step_at}
use Rattle.ada_kernel.specs.declared.index.Index.{Index}
use Rattle.ada_kernel.specs.internal.Indexes.{IsIndexOf}

-- the index stands for the journal, which forces nothing
pub record MayBegin (index : Index) (journal : List Event) : Type 0 where
  pub stands : IsIndexOf index journal
  pub settled : IsSettled journal

-- the index stands for the journal, in which the event may come next
pub record MayNote (index : Index) (journal : List Event) (event : Event) : Type 0 where
  pub stands : IsIndexOf index journal
  pub lawful : IsLawful (event ∷ journal)

-- the index stands for the journal with the event, if that may come next in it
abbrev pub HasNoted : List Event → Event → Index → Type 0
HasNoted before event index = IsLawful (event ∷ before) → IsIndexOf index (event ∷ before)

-- the index stands, without a key, for each journal for which it stood, and of which the row gives nothing there
abbrev pub HasDropped : Row → ℕ → Index → Index → Type 0
HasDropped row key old new = (journal : List Event) → IsIndexOf old journal → step_at journal row key ≡ None → IsIndexOf new journal

-- the index stands for the journal; what the row gives at the key is forced, and there is room for it
pub record MayTake (index : Index) (journal : Kept) (row : Row) (key : ℕ) : Type 0 where
  pub stands : IsIndexOf index journal.events
  pub forces : (step : Event) → step_at journal.events row key ≡ Some step → forced journal.events ≡ Some step
  pub room : (step : Event) → forced journal.events ≡ Some step → 0 < journal.spare

-- the step is appended that the journal forces, in the room of one event
pub record HasTaken (journal after : Kept) : Type 0 where
  pub step : Event
  pub forced : forced journal.events ≡ Some step
  pub appended : after.events ≡ step ∷ journal.events
  pub spare : journal.spare ≤ after.spare + 1

-- where a step is taken it is appended, and the index stands for the journal with it; else the row gives none, and all
-- stays as it is
abbrev pub Takes : Index → Kept → Row → ℕ → Bool → Index → Kept → Type 0
Takes index journal row key true then after = HasTaken journal after × IsIndexOf then after.events
Takes index journal row key false then after = (step_at journal.events row key ≡ None) × (then ≡ index) × (after ≡ journal)
