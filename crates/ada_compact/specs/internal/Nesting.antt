-- When two members of nests, and two lists of them, are alike.
use Rattle.std.specs.Prelude.{◌≡◌, ℕ, true, Some, List, map}
use Rattle.std.specs.List.{list_any}
use Rattle.ada_events.specs.declared.event.Event.{Event}
use Rattle.ada_events.specs.declared.names.Member.{Member}
use Rattle.ada_standing.specs.Renaming.{Renaming, renamed_member}
use Rattle.ada_events.specs.Holders.{is_block}
use Rattle.ada_standing.specs.StandsIn.{IsSameBlock}

pub record IsSameMember (old new : List Event) (names : Renaming) (m n : Member) : Type 0 where
  pub member : renamed_member names m ≡ Some n
  pub block : (p q : ℕ) → is_block p m ≡ true → names.position p ≡ Some q → IsSameBlock old new names p q

pub record AreSameMembers (old new : List Event) (names : Renaming) (ms ns : List Member) : Type 0 where
  pub members : map Some ns ≡ map (renamed_member names) ms
  pub blocks : (p q : ℕ) → list_any (is_block p) ms ≡ true → names.position p ≡ Some q → IsSameBlock old new names p q
