-- Events that give no step at their own position.
use Rattle.std.proofs.Common.{◌≡◌, true, None, List}
use Rattle.std.proofs.lemmas.Bool.{false≢true}
use Rattle.ada_events.specs.declared.event.Event.{Event}
use Rattle.ada_events.specs.Says.{call_in, wait_in, delay_in, start_in, closing_in, moment_in}
use Rattle.ada_step_laws.specs.declared.row.Row.{Row}
use Rattle.ada_step_laws.specs.declared.row.Row.TheVariants.{Halting, Failing, Meeting, Cancelling, Passing, Waking, Activating, Terminating, QuittingBody}
use Rattle.ada_step_laws.specs.declared.row.Row.TheVariants.{QuittingBlock, Leaving}
use Rattle.ada_step_laws.proofs.newly.Refining.{says_row}

-- the event calls, waits for, delays, starts, closes and moves nothing
pub record IsSilent (event : Event) : Type 0 where
  pub calls : call_in event ≡ None
  pub waits : wait_in event ≡ None
  pub delays : delay_in event ≡ None
  pub starts : start_in event ≡ None
  pub closes : closing_in event ≡ None
  pub moment : moment_in event ≡ None

pub no_own : (e : Event) (before : List Event) (row : Row) → IsSilent e → says_row before row e ≡ true → ⊥
no_own e before Halting silent says = false≢true says
no_own e before Failing silent says = false≢true (rw silent.calls at says)
no_own e before Cancelling silent says = false≢true (rw silent.calls at says)
no_own e before Meeting silent says = false≢true (rw silent.waits at says)
no_own e before Passing silent says = false≢true (rw silent.waits at says)
no_own e before Waking silent says = false≢true (rw silent.delays at says)
no_own e before Activating silent says = false≢true (rw silent.starts at says)
no_own e before Leaving silent says = false≢true (rw silent.closes at says)
no_own e before Terminating silent says = false≢true says
no_own e before QuittingBody silent says = false≢true says
no_own e before QuittingBlock silent says = false≢true says
