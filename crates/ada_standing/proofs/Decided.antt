-- What is decided holds: where the test passes, the second journal stands in for the first one.
use Rattle.std.proofs.Common.{◌≡◌, ℕ, ◌<◌, ◌≤◌, suc, true, false, not, ◌&&◌, ◌||◌, eqb, ltb, leb, Some, List, length, map, arith, refl}
use Rattle.std.proofs.Common.{is_some}
use Rattle.std.specs.Option.{option_map_or, option_and_then}
use Rattle.std.specs.List.{list_any}
use Rattle.std.proofs.lemmas.Bool.{and_parts, and_from, eqb-true, ltb-true, leb-true, lt-ltb, eq-eqb, not-true, not_from_false, not_from_true}
use Rattle.ada_events.specs.declared.event.Event.{Event}
use Rattle.ada_events.specs.declared.names.Master.TheVariants.{Body, Block}
use Rattle.ada_events.specs.Search.{event_at}
use Rattle.ada_events.specs.Says.{held_in}
use Rattle.ada_events.specs.Tasks.{has_task, task_count, families_of, moment}
use Rattle.ada_events.specs.Masters.{same_master}
use Rattle.ada_events.specs.Phases.{has_start, is_started, is_elaborated, is_completed, is_terminated, has_ended, is_abnormal, is_suspended}
use Rattle.ada_events.specs.Nests.{nest}
use Rattle.ada_events.specs.Termination.{is_complete, is_abandoned}
use Rattle.ada_events.specs.Outcomes.{outcome_of}
use Rattle.ada_events.specs.Forced.{task_no}
use Rattle.ada_laws.specs.Masters.{parent_of}
use Rattle.ada_laws.specs.Suspension.{IsSuspendedAt}
use Rattle.ada_laws.proofs.searching.Searching.{event_at-within, all_below-holds}
use Rattle.ada_laws.proofs.within.Reaching.{same_master-true}
use Rattle.ada_standing.specs.Renaming.{renamed_master, renamed_member, renamed_outcome, renamed_parent}
use Rattle.ada_standing.specs.Names.{Names, named, renaming_of}
use Rattle.ada_standing.specs.Holds.{is_same_kind}
use Rattle.ada_events.specs.Holders.{is_block}
use Rattle.ada_standing.specs.StandsIn.{is_live, activator_of, made_within, StandsIn, KeepsTasks, KeepsPositions}
use Rattle.ada_standing.specs.StandsIn.{IsSameTask, IsSameDependent, IsSameBlock, IsSameNest, IsSameActive}
use Rattle.ada_standing.proofs.Sameness.{same_Bool-true, same_index-true, same_option, same_option-true, same_list-true}
use Rattle.ada_standing.proofs.Sameness.{same_family, same_family-true, same_member, same_member-true, same_outcome, same_outcome-true}
use Rattle.ada_standing.proofs.Deciding.{all_named, all_placed, holds, held_alike, same_task, same_dependent, same_block, same_nest, same_active}
use Rattle.ada_standing.proofs.Deciding.{keeps_tasks, keeps_positions, hold_alike, is_inhabited, stands}
use Rattle.ada_standing.proofs.Passing.{implied, otherwise, some_value, option_map_or-at, option_map_or-from, all_below-not, both_pass-from}
use Rattle.ada_standing.proofs.Passing.{all_named-at, named_by_some, all_placed-at, keeps_order-at}
use Rattle.ada_standing.proofs.HeldAlike.{holds-from, held_alike-sound}

same_task-sound : (old new : List Event) (names : Names) (u v : ℕ) → same_task old new names u v ≡ true → IsSameTask old new (renaming_of names) u v
same_task-sound old new names u v passes =
    let outcome = and_parts _ _ passes in
    let activator = and_parts _ _ outcome.0 in
    let families = and_parts _ _ activator.0 in
    let terminated = and_parts _ _ families.0 in
    let first = and_parts _ _ terminated.0 in
    record {
      existed = first.0;
      exists = first.1;
      terminated = same_Bool-true (is_terminated new v) (is_terminated old u) terminated.1;
      families = same_list-true same_family (families_of new v) (families_of old u) same_family-true families.1;
      activator = same_option-true eqb (activator_of new v) (option_and_then (named names.tasks) (activator_of old u)) eqb-true activator.1;
      outcome = same_option-true same_outcome (renamed_outcome (renaming_of names) (outcome_of old u)) (Some (outcome_of new v)) same_outcome-true outcome.1;
    }

same_dependent-sound : (old new : List Event) (names : Names) (u v : ℕ) → same_dependent old new names u v ≡ true
    → IsSameDependent old new (renaming_of names) u v
same_dependent-sound old new names u v passes =
    let abandoned = and_parts _ _ passes in
    let within = and_parts _ _ abandoned.0 in
    let by_start = and_parts _ _ within.0 in
    let first = and_parts _ _ by_start.0 in
    record {
      master = same_option-true same_master (parent_of new (Body (task_no v))) (renamed_parent (renaming_of names) old (Body (task_no u)))
          same_master-true first.0;
      completed = same_Bool-true (is_completed new v) (is_completed old u) first.1;
      named = same_Bool-true (has_start new v) (has_start old u) by_start.1;
      within = λ unnamed. same_option-true same_master (made_within new v) (option_and_then (renamed_master (renaming_of names)) (made_within old u))
          same_master-true (otherwise (has_start old u) _ within.1 unnamed);
      abandoned = same_Bool-true (is_abandoned new v) (is_abandoned old u) abandoned.1;
    }

same_block-sound : (old new : List Event) (names : Names) (p q : ℕ) → same_block old new names p q ≡ true → IsSameBlock old new (renaming_of names) p q
same_block-sound old new names p q passes =
    let both = and_parts _ _ passes in
    record {
      within = same_option-true same_master (parent_of new (Block q)) (renamed_parent (renaming_of names) old (Block p)) same_master-true both.0;
      complete = same_Bool-true (is_complete new (Block q)) (is_complete old (Block p)) both.1;
    }

same_nest-sound : (old new : List Event) (names : Names) (u v : ℕ) → same_nest old new names u v ≡ true → IsSameNest old new (renaming_of names) u v
same_nest-sound old new names u v passes =
    let both = and_parts _ _ passes in
    record {
      members = same_list-true (same_option same_member) (map Some (nest new v)) (map (renamed_member (renaming_of names)) (nest old u))
          (λ a b. same_option-true same_member a b same_member-true) both.0;
      blocks = λ p q inside is. same_block-sound old new names p q
          (implied (list_any (is_block p) (nest old u)) (same_block old new names p q)
          (all_placed-at names.places (λ p q. not (list_any (is_block p) (nest old u)) || same_block old new names p q) p q both.1 is) inside);
    }

same_active-sound : (old new : List Event) (names : Names) (u v : ℕ) → same_active old new names u v ≡ true → IsSameActive old new (renaming_of names) u v
same_active-sound old new names u v passes =
    let held = and_parts _ _ passes in
    let active = and_parts _ _ held.0 in
    let suspended = and_parts _ _ active.0 in
    let abnormal = and_parts _ _ suspended.0 in
    let first = and_parts _ _ abnormal.0 in
    record {
      started = same_Bool-true (is_started new v) (is_started old u) first.0;
      elaborated = same_Bool-true (is_elaborated new v) (is_elaborated old u) first.1;
      abnormal = same_Bool-true (is_abnormal new v) (is_abnormal old u) abnormal.1;
      suspended = same_Bool-true (is_suspended new v) (is_suspended old u) suspended.1;
      held = λ p at.
          let within : p ≤ length old = event_at-within old p at.event at.stands in
          held_alike-sound old new names u v p at (not-true (has_ended new v) active.1)
          (option_map_or-at (held_alike old new names u v p) (event_at old p) at.event
          (all_below-holds (λ p. option_map_or (held_alike old new names u v p) (event_at old p) true) (suc (length old)) p held.1 (omega (arith, within)))
          at.stands);
    }

-- who is live exists
live_exists : (journal : List Event) (u : ℕ) → is_live journal u ≡ true → u < task_count journal
live_exists journal u live = ltb-true u (task_count journal) (and_parts (has_task journal u) (not (is_terminated journal u)) live).0

keeps_tasks-sound : (old new : List Event) (names : Names) → keeps_tasks old new names ≡ true → KeepsTasks old new (renaming_of names)
keeps_tasks-sound old new names passes =
    let others = and_parts _ _ passes in
    let rising = and_parts _ _ others.0 in
    let first = and_parts _ _ rising.0 in
    record {
      main = same_option-true eqb (named names.tasks 0) (Some 0) eqb-true first.0;
      live = λ u live. some_value (named names.tasks u)
          (implied (is_live old u) (is_some (named names.tasks u))
          (all_below-holds (λ u. not (is_live old u) || is_some (named names.tasks u)) (task_count old) u first.1 (live_exists old u live)) live);
      rising = λ s t u v first second less. ltb-true u v
          (implied (ltb s t) (ltb u v)
          (all_named-at names (λ t v. not (ltb s t) || ltb u v)
          (all_named-at names (λ s u. all_named names (λ t v. not (ltb s t) || ltb u v)) rising.1 s u first) t v second) (lt-ltb s t less));
      others = λ v live. named_by_some names v
          (implied (is_live new v) (not (all_named names (λ u w. not (eqb w v))))
          (all_below-holds (λ v. not (is_live new v) || not (all_named names (λ u w. not (eqb w v)))) (task_count new) v others.1
          (live_exists new v live)) live);
    }

-- who is suspended at a position passes the tests of its event
active_there : (journal : List Event) (t p : ℕ) (held : IsSuspendedAt journal t p)
    → option_map_or (λ s. holds journal s p held.event && not (has_ended journal s)) (held_in held.event) false ≡ true
active_there journal t p held =
    option_map_or-from (λ s. holds journal s p held.event && not (has_ended journal s)) (held_in held.event) t held.holds
    (and_from (holds journal t p held.event) (not (has_ended journal t)) (holds-from journal t p held) (not_from_false (has_ended journal t) held.live))

hold_alike-from : (journal : List Event) (s t p q : ℕ) (d : IsSuspendedAt journal s p) (e : IsSuspendedAt journal t q)
    → is_same_kind d.event e.event ≡ true → hold_alike journal p q ≡ true
hold_alike-from journal s t p q d e kind =
    both_pass-from _ (event_at journal p) (event_at journal q) d.event e.event d.stands e.stands
    (and_from _ (is_same_kind d.event e.event) (and_from _ _ (active_there journal s p d) (active_there journal t q e)) kind)

is_inhabited-from : (journal : List Event) (s p : ℕ) → is_live journal s ≡ true → list_any (is_block p) (nest journal s) ≡ true → is_inhabited journal p ≡ true
is_inhabited-from journal s p live inside =
    let here = and_from (is_live journal s) (list_any (is_block p) (nest journal s)) live inside in
    not_from_false _ (all_below-not (λ s. not (is_live journal s && list_any (is_block p) (nest journal s))) (task_count journal) s (live_exists journal s live)
    (not_from_true (is_live journal s && list_any (is_block p) (nest journal s)) here))

keeps_positions-sound : (old new : List Event) (names : Names) → keeps_positions old new names ≡ true → KeepsPositions old new (renaming_of names)
keeps_positions-sound old new names passes =
    let blocks = and_parts _ _ passes in
    let held = and_parts _ _ blocks.0 in
    let first = and_parts _ _ held.0 in
    record {
      within = λ p a is.
          let both = and_parts _ _ (all_placed-at names.places (λ p a. leb p (length old) && leb a (length new)) p a first.0 is) in
          (leb-true p (length old) both.0, leb-true a (length new) both.1);
      one = λ p q a is has. eqb-true p q
          (implied (eqb a a) (eqb p q)
          (all_placed-at names.places (λ q b. not (eqb a b) || eqb p q) q a
          (all_placed-at names.places (λ p a. all_placed names (λ q b. not (eqb a b) || eqb p q)) p a first.1 is) has) (eq-eqb a a refl));
      holds = λ s t p q a b d e kind is has less. keeps_order-at names (hold_alike old) p q a b held.1 (hold_alike-from old s t p q d e kind) is has less;
      blocks = λ s t p q a b live lives inside within is has less.
          keeps_order-at names (λ p q. is_inhabited old p && is_inhabited old q) p q a b blocks.1
          (and_from (is_inhabited old p) (is_inhabited old q) (is_inhabited-from old s p live inside) (is_inhabited-from old t q lives within)) is has less;
    }

-- what is computed holds
pub stands_in : (old new : List Event) (names : Names) → stands old new names ≡ true → StandsIn old new (renaming_of names)
unfolding stands
stands_in old new names passes =
    let active = and_parts _ _ passes in
    let nests = and_parts _ _ active.0 in
    let dependents = and_parts _ _ nests.0 in
    let same = and_parts _ _ dependents.0 in
    let positions = and_parts _ _ same.0 in
    let first = and_parts _ _ positions.0 in
    record {
      moments = same_index-true (moment new) (moment old) first.0;
      tasks = keeps_tasks-sound old new names first.1;
      positions = keeps_positions-sound old new names positions.1;
      same = λ u v is. same_task-sound old new names u v (all_named-at names (same_task old new names) same.1 u v is);
      dependents = λ u v is live. same_dependent-sound old new names u v
          (otherwise (is_terminated old u) (same_dependent old new names u v)
          (all_named-at names (λ u v. is_terminated old u || same_dependent old new names u v) dependents.1 u v is) live);
      nests = λ u v is live. same_nest-sound old new names u v
          (otherwise (is_terminated old u) (same_nest old new names u v)
          (all_named-at names (λ u v. is_terminated old u || same_nest old new names u v) nests.1 u v is) live);
      active = λ u v is live. same_active-sound old new names u v
          (otherwise (has_ended old u) (same_active old new names u v)
          (all_named-at names (λ u v. has_ended old u || same_active old new names u v) active.1 u v is) live);
    }
