-- Phases of tasks: running, callable, elaborated and started alike.
use Rattle.std.proofs.Common.{◌≡◌, ℕ, Bool, true, false, not, ◌&&◌, Some, List, refl, inl, inr}
use Rattle.std.proofs.lemmas.Bool.{cases_Bool}
use Rattle.ada_events.specs.declared.event.Event.{Event}
use Rattle.ada_events.specs.Phases.{has_ended, is_started, is_suspended, is_running}
use Rattle.ada_events.specs.Attributes.{is_callable}
use Rattle.ada_standing.specs.Renaming.{Renaming}
use Rattle.ada_standing.specs.StandsIn.{StandsIn}
use Rattle.ada_standing.proofs.alike.Pairs.{ended_alike}

pub running_alike : (old new : List Event) (names : Renaming) (u v : ℕ) → StandsIn old new names → names.task u ≡ Some v → is_running old u ≡ is_running new v
unfolding is_running
running_alike old new names u v stands named =
    elim (cases_Bool (has_ended old u)) [
      | inl ended ↦
          rw (ended_alike old new names u v stands named, ended) (never (is_started old u) (is_suspended old u) (is_started new v) (is_suspended new v))
      | inr active ↦
          let same = stands.active u v named active in
          rw (ended_alike old new names u v stands named, active, same.started, same.suspended) refl
    ]
  where
    never : (a b c d : Bool) → (a && not true && not b) ≡ (c && not true && not d)
    never true b true d = refl
    never true b false d = refl
    never false b true d = refl
    never false b false d = refl

pub callable_alike : (old new : List Event) (names : Renaming) (u v : ℕ) → StandsIn old new names → names.task u ≡ Some v
    → is_callable old u ≡ is_callable new v
unfolding is_callable
callable_alike old new names u v stands named =
    elim (cases_Bool (has_ended old u)) [
      | inl ended ↦ rw (ended_alike old new names u v stands named, ended) refl
      | inr active ↦ rw (ended_alike old new names u v stands named, active, (stands.active u v named active).abnormal) refl
    ]
