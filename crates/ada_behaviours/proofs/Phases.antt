-- Tasks that stand for others run, are terminated and are callable as those are.
use Rattle.std.proofs.Common.{◌≡◌, ℕ, Bool, ◌&&◌, Some, List, sym, ap, ◌∙◌}
use Rattle.ada_events.specs.declared.event.Event.{Event}
use Rattle.ada_events.specs.Tasks.{has_task}
use Rattle.ada_events.specs.Phases.{is_running, is_terminated}
use Rattle.ada_events.specs.Attributes.{is_callable}
use Rattle.ada_standing.specs.Renaming.{Renaming}
use Rattle.ada_standing.specs.StandsIn.{StandsIn}
use Rattle.ada_standing.proofs.alike.Phases.{running_alike, callable_alike}
use Rattle.ada_behaviours.specs.Moves.{runs, is_gone, may_be_called}

module _ (old new : List Event) (names : Renaming) (u v : ℕ) (standing : StandsIn old new names) (named : names.task u ≡ Some v) where
  known_alike : has_task old u ≡ has_task new v
  known_alike = let same = standing.same u v named in same.existed ∙ sym same.exists

  with_known : (a b : Bool) → a ≡ b → (has_task old u && a) ≡ (has_task new v && b)
  with_known a b same = ap (λ k. k && a) known_alike ∙ ap (λ c. has_task new v && c) same

  pub runs_alike : runs old u ≡ runs new v
  runs_alike = with_known (is_running old u) (is_running new v) (running_alike old new names u v standing named)

  pub gone_alike : is_gone old u ≡ is_gone new v
  gone_alike = with_known (is_terminated old u) (is_terminated new v) (sym (standing.same u v named).terminated)

  pub called_alike : may_be_called old u ≡ may_be_called new v
  called_alike = with_known (is_callable old u) (is_callable new v) (callable_alike old new names u v standing named)
