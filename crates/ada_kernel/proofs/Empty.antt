-- What is kept of the empty journal.
use Rattle.std.proofs.Common.{◌≡◌, ℕ, zero, suc, None, List, [], refl, sym, ◌∙◌, arith}
use Rattle.std.proofs.lemmas.Bool.{le-ltb}
use Rattle.std.proofs.lemmas.Option.{none-some}
use Rattle.ada_events.specs.Search.{event_at, any_event, first_given, gathered, first_below, all_below}
use Rattle.ada_events.specs.Tasks.{task_count, creation_of}
use Rattle.ada_events.specs.Masters.{reaches, depends_on}
use Rattle.ada_events.specs.Phases.{has_start, is_completed, is_terminated, has_ended, is_abnormal}
use Rattle.ada_events.specs.Termination.{all_terminated, is_complete, is_abandoned}
use Rattle.ada_events.specs.Forced.{is_to_halt, is_to_go, is_to_quit}
use Rattle.ada_step_laws.specs.declared.row.Row.{Row}
use Rattle.ada_step_laws.specs.declared.row.Row.TheVariants.{Halting, Failing, Meeting, Cancelling, Passing, Waking, Activating, Terminating, QuittingBody}
use Rattle.ada_step_laws.specs.declared.row.Row.TheVariants.{QuittingBlock, Leaving}
use Rattle.ada_step_laws.specs.Rows.{step_at}
use Rattle.ada_agenda.specs.Keeping.{IsAgendaOf}

-- no row gives a step
pub none_at_first : (row : Row) (key : ℕ) → step_at [] row key ≡ None
unfolding step_at event_at any_event first_given gathered first_below all_below task_count creation_of reaches depends_on has_start is_completed is_terminated
    has_ended is_abnormal all_terminated is_complete is_abandoned is_to_halt is_to_go is_to_quit
none_at_first Halting zero = refl
none_at_first Halting (suc n) = rw (le-ltb (suc n) 1 (omega arith)) refl
none_at_first Failing key = refl
none_at_first Meeting key = refl
none_at_first Cancelling key = refl
none_at_first Passing key = refl
none_at_first Waking key = refl
none_at_first Activating key = refl
none_at_first Terminating zero = refl
none_at_first Terminating (suc n) = rw (le-ltb (suc n) 1 (omega arith)) refl
none_at_first QuittingBody zero = refl
none_at_first QuittingBody (suc n) = rw (le-ltb (suc n) 1 (omega arith)) refl
none_at_first QuittingBlock key = refl
none_at_first Leaving key = refl

-- so any rows are its agenda
pub empty_agenda : (rows : List (List ℕ)) → IsAgendaOf rows []
empty_agenda rows = record { covers = record { kept = λ row key step gives. absurd (none-some step (sym (none_at_first row key) ∙ gives)) } }
