-- What a contract sees of a journal.
use Rattle.std.specs.Prelude.{ℕ, List}
use Rattle.ada_events.specs.declared.event.Event.{Event}

-- the events, the newest first, and how many more find room without any growth
pub record Kept : Type 0 where
  pub events : List Event
  pub spare : ℕ
