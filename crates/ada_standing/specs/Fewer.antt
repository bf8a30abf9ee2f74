-- Names of which some are left out, and still enough of them are kept.
use Rattle.std.specs.Prelude.{◌≡◌, ℕ, Bool, true, ◌==◌, Some, List}
use Rattle.std.specs.List.{list_any}
use Rattle.ada_events.specs.declared.event.Event.{Event}
use Rattle.ada_events.specs.declared.names.Member.{Member}
use Rattle.ada_events.specs.declared.names.Member.TheVariants.{Block, Rendezvous}
use Rattle.ada_events.specs.declared.outcome.Outcome.TheVariants.{Accepted}
use Rattle.ada_events.specs.Nests.{nest}
use Rattle.ada_events.specs.Outcomes.{outcome_of}
use Rattle.ada_laws.specs.Suspension.{IsSuspendedAt}
use Rattle.ada_standing.specs.Renaming.{Renaming}
use Rattle.ada_standing.specs.StandsIn.{is_live}

-- the member of a nest is the block, or the rendezvous of the call, at the position
abbrev pub is_member_at : ℕ → Member → Bool
is_member_at position (Block p) = p == position
is_member_at position (Rendezvous call) = call == position

-- what the fewer names name is named so; kept are the main program, the tasks that aren't terminated, the positions at
-- which tasks are suspended, those of the members of the nests of tasks that aren't terminated, and those of which the
-- outcomes of tasks that are kept speak
pub record AreEnough (old : List Event) (names fewer : Renaming) : Type 0 where
  pub tasks : (u v : ℕ) → fewer.task u ≡ Some v → names.task u ≡ Some v
  pub positions : (p q : ℕ) → fewer.position p ≡ Some q → names.position p ≡ Some q
  pub main : fewer.task 0 ≡ names.task 0
  pub live : (u : ℕ) → is_live old u ≡ true → fewer.task u ≡ names.task u
  pub held : (u p : ℕ) → IsSuspendedAt old u p → fewer.position p ≡ names.position p
  pub members : (u p : ℕ) → is_live old u ≡ true → list_any (is_member_at p) (nest old u) ≡ true → fewer.position p ≡ names.position p
  pub accepted : (u v call choice : ℕ) → fewer.task u ≡ Some v → outcome_of old u ≡ Accepted call choice
      → fewer.position call ≡ names.position call
