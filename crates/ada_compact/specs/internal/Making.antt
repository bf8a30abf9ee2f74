-- When two tasks were made alike.
use Rattle.std.specs.Prelude.{◌≡◌, Bool, false, Option, []}
use Rattle.std.specs.Option.{option_map, option_map_or, option_and_then}
use Rattle.ada_events.specs.Says.{Creation}
use Rattle.ada_standing.specs.Renaming.{Renaming, renamed_master}

-- with the same entries, under the same master, and within the same unless the first is named by a start
pub record IsSameMaking (names : Renaming) (named : Bool) (old new : Option Creation) : Type 0 where
  pub families : option_map_or (λ (c : Creation). c.families) new [] ≡ option_map_or (λ (c : Creation). c.families) old []
  pub master : option_map (λ (c : Creation). c.master) new ≡ option_and_then (renamed_master names) (option_map (λ (c : Creation). c.master) old)
  pub within : named ≡ false
      → option_map (λ (c : Creation). c.under) new ≡ option_and_then (renamed_master names) (option_map (λ (c : Creation). c.under) old)
