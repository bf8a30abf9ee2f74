-- What stands in for a journal that stands in for a first one stands in for that too.
use Rattle.std.proofs.Common.{◌≡◌, ℕ, ◌<◌, true, false, not, Some, List, sym, ap, ◌∙◌, subst}
use Rattle.std.specs.Option.{option_map, option_and_then}
use Rattle.std.specs.List.{list_any}
use Rattle.std.proofs.lemmas.Bool.{and_from, not_from_false}
use Rattle.std.proofs.lemmas.Option.{same_Some}
use Rattle.ada_events.specs.declared.event.Event.{Event}
use Rattle.ada_events.specs.declared.names.Master.TheVariants.{Body, Block}
use Rattle.ada_events.specs.Tasks.{has_task}
use Rattle.ada_events.specs.Phases.{is_terminated, has_ended}
use Rattle.ada_events.specs.Nests.{nest}
use Rattle.ada_events.specs.Outcomes.{outcome_of}
use Rattle.ada_events.specs.Forced.{task_no}
use Rattle.ada_laws.specs.Masters.{parent_of}
use Rattle.ada_laws.specs.Suspension.{IsSuspendedAt}
use Rattle.ada_laws.proofs.searching.Searching.{option_and_then-some}
use Rattle.ada_standing.specs.Renaming.{Renaming, chained, renamed_master, renamed_outcome}
use Rattle.ada_standing.specs.Holds.{is_same_kind}
use Rattle.ada_standing.specs.StandsIn.{StandsIn, KeepsTasks, KeepsPositions, IsSameTask, IsSameDependent, IsSameNest, IsSameBlock, IsSameActive, IsHeldAlike}
use Rattle.ada_events.specs.Holders.{is_block}
use Rattle.ada_standing.specs.StandsIn.{is_live, activator_of, made_within}
use Rattle.ada_standing.specs.Laws.{StandInsChain}
use Rattle.ada_standing.proofs.alike.Orderly.{IsOrderly, IsLivedIn}
use Rattle.ada_standing.proofs.alike.Pairs.{live_from, live_alike, live_back, ended_alike, active_parts}
use Rattle.ada_standing.proofs.alike.Mastering.{lived_forth, parent_alike, complete_alike}
use Rattle.ada_standing.proofs.lawful.Orderly.{lawful_orderly}
use Rattle.ada_standing.proofs.chained.Names.{and_then_twice, masters_twice, members_twice, outcome_twice}
use Rattle.ada_standing.proofs.chained.Holds.{kind_alike, hold_chain}

-- a block that a live task is within has a live task within it
lived_block : (journal : List Event) (q : ℕ) → IsLivedIn journal (Block q)
    → (task : ℕ) × (is_live journal task ≡ true) × (list_any (is_block q) (nest journal task) ≡ true)
lived_block journal q (IsLivedIn.block task p live within) = (task, live, within)

-- the block that stands for one that a live task is within
block_lived : (old new : List Event) (names : Renaming) (p q : ℕ) → StandsIn old new names → IsLivedIn old (Block p) → names.position p ≡ Some q
    → IsLivedIn new (Block q)
unfolding renamed_master
block_lived old new names p q stands lived placed =
    let (y, is, there) = lived_forth old new names (Block p) stands lived in
    subst (IsLivedIn new) (same_Some y (Block q) (sym is ∙ ap (option_map Block) placed)) there

renamed_block : (names : Renaming) (p q : ℕ) → names.position p ≡ Some q → renamed_master names (Block p) ≡ Some (Block q)
unfolding renamed_master
renamed_block names p q placed = ap (option_map Block) placed

module _ (first second third : List Event) (names more : Renaming) (here : StandsIn first second names) (there : StandsIn second third more) where
  tasks_chain : KeepsTasks first third (chained names more)
  tasks_chain = record {
    main = ap (option_and_then more.task) here.tasks.main ∙ there.tasks.main;
    live = λ u live.
        let (v, named) = here.tasks.live u live in
        let (w, has) = there.tasks.live v (live_alike first second names u v here named ∙ live) in
        (w, ap (option_and_then more.task) named ∙ has);
    rising = λ s t u v one other less.
        let (x, is, has) = option_and_then-some more.task (names.task s) u one in
        let (y, also, makes) = option_and_then-some more.task (names.task t) v other in
        there.tasks.rising x y u v has makes (here.tasks.rising s t x y is also less);
    others = λ w live.
        let (v, has, lives) = live_back second third more w there live in
        let (u, is) = here.tasks.others v lives in
        (u, ap (option_and_then more.task) is ∙ has);
  }

  holds_chain : IsOrderly first → (s t p q a b : ℕ) (d : IsSuspendedAt first s p) (e : IsSuspendedAt first t q) → is_same_kind d.event e.event ≡ true
      → (chained names more).position p ≡ Some a → (chained names more).position q ≡ Some b → p < q → a < b
  holds_chain orderly s t p q a b d e kind one other less =
      let (x, is, has) = option_and_then-some more.position (names.position p) a one in
      let (y, also, makes) = option_and_then-some more.position (names.position q) b other in
      let (u, named) = here.tasks.live s (live_from first s (orderly.exist s p d) (active_parts first s d.live).1) in
      let (v, calls) = here.tasks.live t (live_from first t (orderly.exist t q e) (active_parts first t e.live).1) in
      let like = (here.active s u named d.live).held p d in
      let alike = (here.active t v calls e.live).held q e in
      let same = kind_alike first second names p q like.at alike.at d.event e.event like.held.event alike.held.event like.alike alike.alike in
      there.positions.holds u v like.at alike.at a b like.held alike.held (same ∙ kind)
      (ap more.position (same_Some like.at x (sym like.renamed ∙ is)) ∙ has) (ap more.position (same_Some alike.at y (sym alike.renamed ∙ also)) ∙ makes)
      (here.positions.holds s t p q like.at alike.at d e kind like.renamed alike.renamed less)

  positions_chain : IsOrderly first → KeepsPositions first third (chained names more)
  positions_chain orderly = record {
    within = λ p a placed.
        let (x, is, has) = option_and_then-some more.position (names.position p) a placed in
        ((here.positions.within p x is).0, (there.positions.within x a has).1);
    one = λ p q a one other.
        let (x, is, has) = option_and_then-some more.position (names.position p) a one in
        let (y, also, makes) = option_and_then-some more.position (names.position q) a other in
        here.positions.one p q x is (also ∙ ap Some (there.positions.one y x a makes has));
    holds = holds_chain orderly;
    blocks = λ s t p q a b live lives within inside one other less.
        let (x, is, has) = option_and_then-some more.position (names.position p) a one in
        let (y, also, makes) = option_and_then-some more.position (names.position q) b other in
        let (u, alive, among) = lived_block second x (block_lived first second names p x here (IsLivedIn.block s p live within) is) in
        let (v, living, amid) = lived_block second y (block_lived first second names q y here (IsLivedIn.block t q lives inside) also) in
        there.positions.blocks u v x y a b alive living among amid has makes (here.positions.blocks s t p q x y live lives within inside is also less);
  }

  same_chain : (u w : ℕ) → (chained names more).task u ≡ Some w → IsSameTask first third (chained names more) u w
  same_chain u w named =
      let (v, is, has) = option_and_then-some more.task (names.task u) w named in
      let one = here.same u v is in
      let other = there.same v w has in
      record {
        existed = one.existed;
        exists = other.exists;
        terminated = other.terminated ∙ one.terminated;
        families = other.families ∙ one.families;
        activator =
            other.activator
            ∙ (ap (option_and_then more.task) one.activator ∙ and_then_twice names.task more.task (activator_of first u));
        outcome =
            sym (outcome_twice names more (outcome_of first u))
            ∙ (ap (option_and_then (renamed_outcome more)) one.outcome ∙ other.outcome);
      }

  dependents_chain : (u w : ℕ) → (chained names more).task u ≡ Some w → is_terminated first u ≡ false
      → IsSameDependent first third (chained names more) u w
  dependents_chain u w named still =
      let (v, is, has) = option_and_then-some more.task (names.task u) w named in
      let one = here.dependents u v is still in
      let other = there.dependents v w has ((here.same u v is).terminated ∙ still) in
      record {
        master =
            other.master
            ∙ (ap (option_and_then (renamed_master more)) one.master ∙ masters_twice names more (parent_of first (Body (task_no u))));
        completed = other.completed ∙ one.completed;
        named = other.named ∙ one.named;
        within = λ none.
            other.within (one.named ∙ none)
            ∙ (ap (option_and_then (renamed_master more)) (one.within none) ∙ masters_twice names more (made_within first u));
        abandoned = other.abandoned ∙ one.abandoned;
      }

  block_chain : (p r : ℕ) → IsLivedIn first (Block p) → (chained names more).position p ≡ Some r → IsSameBlock first third (chained names more) p r
  block_chain p r lived placed =
      let (q, is, has) = option_and_then-some more.position (names.position p) r placed in
      let lives = block_lived first second names p q here lived is in
      record {
        within =
            parent_alike second third more (Block q) (Block r) there lives (renamed_block more q r has)
            ∙ (ap (option_and_then (renamed_master more)) (parent_alike first second names (Block p) (Block q) here lived (renamed_block names p q is))
            ∙ masters_twice names more (parent_of first (Block p)));
        complete =
            complete_alike second third more (Block q) (Block r) there lives (renamed_block more q r has)
            ∙ complete_alike first second names (Block p) (Block q) here lived (renamed_block names p q is);
      }

  nests_chain : (u w : ℕ) → (chained names more).task u ≡ Some w → is_terminated first u ≡ false → IsSameNest first third (chained names more) u w
  nests_chain u w named still =
      let (v, is, has) = option_and_then-some more.task (names.task u) w named in
      let live = and_from (has_task first u) (not (is_terminated first u)) (here.same u v is).existed (not_from_false (is_terminated first u) still) in
      record {
        members =
            (there.nests v w has ((here.same u v is).terminated ∙ still)).members
            ∙ members_twice names more (nest first u) (nest second v) (here.nests u v is still).members;
        blocks = λ p r within placed. block_chain p r (IsLivedIn.block u p live within) placed;
      }

  held_chain : (u v w p : ℕ) (held : IsSuspendedAt first u p) → names.task u ≡ Some v → more.task v ≡ Some w
      → IsHeldAlike first third (chained names more) w p held.event
  held_chain u v w p held is has =
      let one = (here.active u v is held.live).held p held in
      let other = (there.active v w has one.held.live).held one.at one.held in
      record {
        at = other.at;
        renamed = ap (option_and_then more.position) one.renamed ∙ other.renamed;
        held = other.held;
        alike =
            hold_chain first second third names more here p one.at other.at held.event one.held.event other.held.event one.alike other.alike;
      }

  active_chain : (u w : ℕ) → (chained names more).task u ≡ Some w → has_ended first u ≡ false → IsSameActive first third (chained names more) u w
  active_chain u w named active =
      let (v, is, has) = option_and_then-some more.task (names.task u) w named in
      let one = here.active u v is active in
      let other = there.active v w has (ended_alike first second names u v here is ∙ active) in
      record {
        started = other.started ∙ one.started;
        elaborated = other.elaborated ∙ one.elaborated;
        abnormal = other.abnormal ∙ one.abnormal;
        suspended = other.suspended ∙ one.suspended;
        held = λ p held. held_chain u v w p held is has;
      }

pub stand_ins_chain : StandInsChain
stand_ins_chain first second third names more here there lawful = record {
  moments = there.moments ∙ here.moments;
  tasks = tasks_chain first second third names more here there;
  positions = positions_chain first second third names more here there (lawful_orderly first lawful);
  same = same_chain first second third names more here there;
  dependents = dependents_chain first second third names more here there;
  nests = nests_chain first second third names more here there;
  active = active_chain first second third names more here there;
}
