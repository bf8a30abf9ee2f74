-- What fewer names say of what live tasks speak of, where they are enough.
use Rattle.std.proofs.Common.{◌≡◌, ℕ, true, false, not, eqb, Option, Some, None, List, [], ◌∷◌, map, refl, ap, subst, inl, inr, ◌&&◌}
use Rattle.std.specs.Option.{option_map, option_and_then}
use Rattle.std.specs.Bool.{then_some}
use Rattle.std.specs.List.{list_any}
use Rattle.std.proofs.lemmas.Bool.{and_from, and_parts, or_cases, or_left, or_right, eq-eqb, not_from_false, not-true, false≢true}
use Rattle.std.proofs.lemmas.Option.{none-some}
use Rattle.ada_events.specs.declared.event.Event.{Event}
use Rattle.ada_events.specs.declared.names.Master.{Master}
use Rattle.ada_events.specs.declared.names.Master.TheVariants.{Body, Block}
use Rattle.ada_events.specs.declared.names.Member.{Member}
use Rattle.ada_events.specs.declared.names.Member.TheVariants.{Block as BlockMember, Rendezvous}
use Rattle.ada_events.specs.declared.outcome.Outcome.{Outcome}
use Rattle.ada_events.specs.declared.outcome.Outcome.TheVariants.{Accepted}
use Rattle.ada_events.specs.Says.{Creation}
use Rattle.ada_events.specs.Tasks.{has_task, creation_of}
use Rattle.ada_events.specs.Phases.{has_start, is_terminated}
use Rattle.ada_events.specs.Nests.{nest}
use Rattle.ada_events.specs.Outcomes.{outcome_of}
use Rattle.ada_events.specs.Forced.{task_no}
use Rattle.ada_laws.specs.Masters.{parent_of}
use Rattle.ada_laws.proofs.searching.Searching.{option_and_then-some, then_some-some}
use Rattle.ada_standing.specs.Renaming.{Renaming, renamed_master, renamed_member, renamed_outcome, renamed_parent}
use Rattle.ada_events.specs.Holders.{is_block}
use Rattle.ada_standing.specs.StandsIn.{StandsIn, is_live, activator_of}
use Rattle.ada_standing.specs.Fewer.{AreEnough, is_member_at}
use Rattle.ada_standing.proofs.alike.Orderly.{IsOrderly, IsLivedIn}
use Rattle.ada_standing.proofs.alike.Mastering.{parent_lived}

-- of two of which the one says no more than the other, they are the same if so where the other says something
option_same : (a b : Option ℕ) → ((v : ℕ) → a ≡ Some v → b ≡ Some v) → ((v : ℕ) → b ≡ Some v → a ≡ b) → a ≡ b
option_same None None less more = refl
option_same (Some x) None less more = absurd (none-some x (less x refl))
option_same a (Some y) less more = more y refl

block_member : (p : ℕ) (xs : List Member) → list_any (is_block p) xs ≡ true → list_any (is_member_at p) xs ≡ true
block_member p [] has = absurd (false≢true has)
block_member p (BlockMember q ∷ rest) has = elim (or_cases (eqb q p) (list_any (is_block p) rest) has) [
  | inl here ↦ or_left (eqb q p) (list_any (is_member_at p) rest) here
  | inr later ↦ or_right (eqb q p) (list_any (is_member_at p) rest) (block_member p rest later)
]
block_member p (Rendezvous call ∷ rest) has = or_right (eqb call p) (list_any (is_member_at p) rest) (block_member p rest has)

member_same : (names fewer : Renaming) (x : Member) (xs : List Member)
    → ((p : ℕ) → list_any (is_member_at p) (x ∷ xs) ≡ true → fewer.position p ≡ names.position p) → renamed_member fewer x ≡ renamed_member names x
unfolding renamed_member
member_same names fewer (BlockMember q) xs kept =
    ap (option_map BlockMember) (kept q (or_left (eqb q q) (list_any (is_member_at q) xs) (eq-eqb q q refl)))
member_same names fewer (Rendezvous q) xs kept =
    ap (option_map Rendezvous) (kept q (or_left (eqb q q) (list_any (is_member_at q) xs) (eq-eqb q q refl)))

members_same : (names fewer : Renaming) (xs : List Member)
    → ((p : ℕ) → list_any (is_member_at p) xs ≡ true → fewer.position p ≡ names.position p)
    → map (renamed_member fewer) xs ≡ map (renamed_member names) xs
members_same names fewer [] kept = refl
members_same names fewer (x ∷ xs) kept =
    rw (
      member_same names fewer x xs kept,
      members_same names fewer xs (λ p has. kept p (or_right (is_member_at p x) (list_any (is_member_at p) xs) has)),
    ) refl

outcome_same : (names fewer : Renaming) (o : Outcome) → ((call choice : ℕ) → o ≡ Accepted call choice → fewer.position call ≡ names.position call)
    → renamed_outcome fewer o ≡ renamed_outcome names o
unfolding renamed_outcome
outcome_same names fewer (Accepted call choice) kept = ap (option_map (λ c. Accepted c choice)) (kept call choice refl)
outcome_same names fewer _ kept = refl

masters_same : (names fewer : Renaming) (o : Option Master) → ((m : Master) → o ≡ Some m → renamed_master fewer m ≡ renamed_master names m)
    → option_and_then (renamed_master fewer) o ≡ option_and_then (renamed_master names) o
masters_same names fewer None kept = refl
masters_same names fewer (Some m) kept = kept m refl

tasks_same : (names fewer : Renaming) (o : Option ℕ) → ((u : ℕ) → o ≡ Some u → fewer.task u ≡ names.task u)
    → option_and_then fewer.task o ≡ option_and_then names.task o
tasks_same names fewer None kept = refl
tasks_same names fewer (Some u) kept = kept u refl

-- who may still activate a task isn't terminated
activator_still : (journal : List Event) (u b : ℕ) → activator_of journal u ≡ Some b → is_terminated journal b ≡ false
unfolding activator_of
activator_still journal u b is =
    let (c, says, gives) = option_and_then-some
    (λ (c : Creation). then_some (not (has_start journal u) && not (is_terminated journal c.by)) c.by) (creation_of journal u) b is in
    let both = then_some-some (not (has_start journal u) && not (is_terminated journal c.by)) c.by b gives in
    subst (λ (n : ℕ). is_terminated journal n ≡ false) both.1
    (not-true (is_terminated journal c.by) (and_parts (not (has_start journal u)) (not (is_terminated journal c.by)) both.0).1)

module _ (old new : List Event) (names fewer : Renaming) (stands : StandsIn old new names) (enough : AreEnough old names fewer) where
  pub live_named : (u v : ℕ) → names.task u ≡ Some v → is_terminated old u ≡ false → is_live old u ≡ true
  live_named u v named still =
      and_from (has_task old u) (not (is_terminated old u)) (stands.same u v named).existed (not_from_false (is_terminated old u) still)

  pub task_kept : (u : ℕ) → is_terminated old u ≡ false → fewer.task u ≡ names.task u
  task_kept u still = option_same (fewer.task u) (names.task u) (enough.tasks u) (λ v named. enough.live u (live_named u v named still))

  pub master_kept : (m : Master) → IsLivedIn old m → renamed_master fewer m ≡ renamed_master names m
  unfolding renamed_master
  master_kept m (IsLivedIn.body t live) = ap (option_map (λ v. Body (task_no v))) (enough.live t.0 live)
  master_kept m (IsLivedIn.block task p live within) =
      ap (option_map Block) (enough.members task p live (block_member p (nest old task) within))

  pub parents_kept : IsOrderly old → (x : Master) → IsLivedIn old x → renamed_parent fewer old x ≡ renamed_parent names old x
  parents_kept orderly x lived =
      masters_same names fewer (parent_of old x) (λ z is. master_kept z (parent_lived old x z orderly lived is))

  pub within_kept : (o : Option Master) → ((m : Master) → o ≡ Some m → IsLivedIn old m)
      → option_and_then (renamed_master fewer) o ≡ option_and_then (renamed_master names) o
  within_kept o lived = masters_same names fewer o (λ m is. master_kept m (lived m is))

  pub members_kept : (u : ℕ) → is_live old u ≡ true → map (renamed_member fewer) (nest old u) ≡ map (renamed_member names) (nest old u)
  members_kept u live = members_same names fewer (nest old u) (λ p has. enough.members u p live has)

  pub block_kept : (u p : ℕ) → is_live old u ≡ true → list_any (is_block p) (nest old u) ≡ true → fewer.position p ≡ names.position p
  block_kept u p live has = enough.members u p live (block_member p (nest old u) has)

  pub outcome_kept : (u v : ℕ) → fewer.task u ≡ Some v → renamed_outcome fewer (outcome_of old u) ≡ renamed_outcome names (outcome_of old u)
  outcome_kept u v named = outcome_same names fewer (outcome_of old u) (λ call choice is. enough.accepted u v call choice named is)

  pub activator_kept : (u : ℕ) → option_and_then fewer.task (activator_of old u) ≡ option_and_then names.task (activator_of old u)
  activator_kept u = tasks_same names fewer (activator_of old u) (λ b is. task_kept b (activator_still old u b is))
