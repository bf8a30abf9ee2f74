-- The end of a rendezvous (9.5).
use Rattle.std.specs.Prelude.{◌≡◌, ℕ, Bool}
use Rattle.ada_events.specs.declared.event.Event.{Event}
use Rattle.ada_events.specs.declared.event.Event.TheVariants.{Ended}
use Rattle.ada_events.specs.declared.names.TaskNo.{TaskNo}

-- by the event a task ends the rendezvous with the call at a position (9.5)
pub record EndsCall (event : Event) (by : TaskNo) (call : ℕ) : Type 0 where
  pub raised : Bool
  pub is : event ≡ Ended by call raised
