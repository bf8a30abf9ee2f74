-- Blocks that are closed (9.4).
use Rattle.std.specs.Prelude.{◌≡◌, ℕ, Bool, true, ◌==◌, Some, List}
use Rattle.ada_events.specs.declared.event.Event.{Event}
use Rattle.ada_events.specs.Search.{is_some_and, event_at}
use Rattle.ada_events.specs.Nests.{nest}
use Rattle.ada_events.specs.Says.{Opening, Closing, opening_in, closing_in}
use Rattle.ada_records.specs.declared.record.Record.{Record}
use Rattle.ada_records.specs.Records.{IsRecordOf}
use Rattle.ada_events.specs.Holders.{has_block}

-- the event is a close of the block
abbrev pub closes : ℕ → Event → Bool
closes block event = is_some_and (closing_in event) (λ (c : Closing). c.block == block)

-- a close of the block stands at the position
abbrev pub closes_at : List Event → ℕ → ℕ → Bool
closes_at journal block position = is_some_and (event_at journal position) (closes block)

-- the record is of the task that opened the block, and is within it
pub record IsOfOpener (journal : List Event) (block : ℕ) (kept : Record) : Type 0 where
  pub event : Event
  pub opening : Opening
  pub stands : event_at journal block ≡ Some event
  pub says : opening_in event ≡ Some opening
  pub right : IsRecordOf journal opening.by kept
  pub within : has_block block (nest journal opening.by) ≡ true
