-- Where one more event can newly force a step.
use Rattle.std.specs.Prelude.{◌≡◌, ℕ, Some}
use Rattle.ada_events.specs.declared.event.Event.{Event}
use Rattle.ada_events.specs.Says.{Call, call_in}

-- the event calls an entry of the task
pub record IsCallOf (event : Event) (task : ℕ) : Type 0 where
  pub call : Call
  pub says : call_in event ≡ Some call
  pub of : call.callee ≡ task
