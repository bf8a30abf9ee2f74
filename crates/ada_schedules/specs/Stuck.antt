-- When nothing can let a journal go on.
use Rattle.std.specs.Prelude.{◌≡◌, ℕ, ℤ, int_lt, true, false, None, List, ◌∷◌}
use Rattle.ada_events.specs.declared.event.Event.{Event}
use Rattle.ada_events.specs.declared.event.Event.TheVariants.{Ticked}
use Rattle.ada_events.specs.declared.request.Request.TheVariants.{Tick}
use Rattle.ada_events.specs.Phases.{is_terminated, is_running}
use Rattle.ada_events.specs.Lawful.{IsSettled}
use Rattle.ada_laws.specs.Unlimited.{refusal_but_limits}
use Rattle.ada_standing.specs.StandsIn.{is_live}

-- the main program isn't terminated, no task runs, and no tick forces anything
pub record IsStuck (journal : List Event) : Type 0 where
  pub unfinished : is_terminated journal 0 ≡ false
  pub nobody : (task : ℕ) → is_live journal task ≡ true → is_running journal task ≡ false
  pub quiet : (now : ℤ) → refusal_but_limits journal (Tick now) ≡ None → IsSettled (Ticked now ∷ journal)

-- a tick to the first moment that lets anything go on: it forces a step, and no earlier one does
pub record IsFirstTick (journal : List Event) (now : ℤ) : Type 0 where
  pub accepted : refusal_but_limits journal (Tick now) ≡ None
  pub forces : IsSettled (Ticked now ∷ journal) → ⊥
  pub first : (earlier : ℤ) → int_lt earlier now ≡ true → refusal_but_limits journal (Tick earlier) ≡ None → IsSettled (Ticked earlier ∷ journal)
