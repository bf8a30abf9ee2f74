-- What stays true while the steps that a journal forces are appended.
use Rattle.std.specs.Prelude.{◌≤◌, List}
use Rattle.ada_events.specs.declared.event.Event.{Event}
use Rattle.ada_events.specs.Journals.{Kept}
use Rattle.ada_events.specs.Lawful.{IsLawful, Forces}
use Rattle.ada_laws.specs.Work.{work_left}

-- all that was appended is forced, the journal is lawful, and the work left finds room
pub record IsSettling (from : List Event) (journal : Kept) : Type 0 where
  pub forces : Forces from journal.events
  pub lawful : IsLawful journal.events
  pub room : work_left journal.events ≤ journal.spare
