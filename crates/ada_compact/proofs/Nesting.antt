-- Nests are compared member by member.
use Rattle.std.proofs.Common.{◌≡◌, ℕ, zero, suc, ◌<◌, ◌+◌, List, [], ◌∷◌, length, drop, get_or, refl, arith, inl, inr, add-one}
use Rattle.std.specs.List.{list_any}
use Rattle.std.proofs.lemmas.Bool.{or_cases}
use Rattle.ada_events.specs.declared.event.Event.{Event}
use Rattle.ada_events.specs.declared.names.Member.{Member}
use Rattle.ada_events.specs.Nests.{nest}
use Rattle.ada_tables.specs.declared.layers.Layer.{Layer}
use Rattle.ada_tables.specs.Layers.{member_of, members}
use Rattle.ada_standing.specs.Renaming.{Renaming}
use Rattle.ada_events.specs.Holders.{is_block}
use Rattle.ada_standing.specs.StandsIn.{IsSameNest}
use Rattle.ada_compact.specs.internal.Nesting.{IsSameMember, AreSameMembers}

members_more : (layers : List Layer) (i : ℕ) (d : Layer) → i < length layers
    → members (drop i layers) ≡ member_of (get_or layers i d) ∷ members (drop (suc i) layers)
members_more [] i d within = absurd (omega (arith, within))
members_more (layer ∷ layers) zero d within = refl
members_more (layer ∷ layers) (suc i) d within = members_more layers i d (omega (arith, within))

module _ (old new : List Event) (names : Renaming) where
  same_first : (m n : Member) (ms ns : List Member) → IsSameMember old new names m n → AreSameMembers old new names ms ns
      → AreSameMembers old new names (m ∷ ms) (n ∷ ns)
  same_first m n ms ns first rest = record {
    members = rw (first.member, rest.members) refl;
    blocks = λ p q within placed. elim (or_cases (is_block p m) (list_any (is_block p) ms) within) [
      | inl here ↦ first.block p q here placed
      | inr further ↦ rest.blocks p q further placed
    ];
  }

  -- after one more member that is alike, it is left that the further ones are
  pub same_more : (olds news : List Layer) (i : ℕ) (d e : Layer) → i < length olds → i < length news
      → IsSameMember old new names (member_of (get_or olds i d)) (member_of (get_or news i e))
      → (AreSameMembers old new names (members (drop i olds)) (members (drop i news)) → AreSameMembers old new names (members olds) (members news))
      → AreSameMembers old new names (members (drop (i + 1) olds)) (members (drop (i + 1) news)) → AreSameMembers old new names (members olds) (members news)
  same_more olds news i d e within copied first all rest =
      all (rw (members_more olds i d within, members_more news i e copied, ← add-one i)
      (same_first (member_of (get_or olds i d)) (member_of (get_or news i e)) (members (drop (i + 1) olds)) (members (drop (i + 1) news)) first rest))

  pub same_nest : (u v : ℕ) (olds news : List Layer) → members olds ≡ nest old u → members news ≡ nest new v
      → AreSameMembers old new names (members olds) (members news) → IsSameNest old new names u v
  same_nest u v olds news is copy same = record {
    members = rw (← is, ← copy) same.members;
    blocks = λ p q within placed. same.blocks p q (rw is within) placed;
  }
