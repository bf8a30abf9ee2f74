-- What is kept of a journal, so that none has to search it.
use Rattle.std.specs.Prelude.{List}
use Rattle.ada_events.specs.declared.event.Event.{Event}
use Rattle.ada_records.specs.TableEvents.{HaveAllQueues}
use Rattle.ada_triggers.specs.Bounds.{IsDueBound, IsStartBound}
use Rattle.ada_view.specs.Views.{IsKept}
use Rattle.ada_agenda.specs.Keeping.{IsAgendaOf}
use Rattle.ada_kernel.specs.declared.index.Index.{Index}

-- the journal is lawful, and all that is kept of it is right: records, tables with a queue for each entry,
-- moment, an agenda that misses no step, a bound of the moments for which tasks are suspended, and one of
-- the tasks that were started
pub record IsIndexOf (index : Index) (journal : List Event) : Type 0 where
  pub kept : IsKept journal index.kept.records.items index.kept.tables index.kept.moment
  pub slots : HaveAllQueues index.kept.tables journal
  pub agenda : IsAgendaOf index.agenda journal
  pub due : IsDueBound journal index.next_due
  pub unstarted : IsStartBound journal index.unstarted
