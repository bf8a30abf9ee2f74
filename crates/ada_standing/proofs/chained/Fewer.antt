-- A journal stands in for another with fewer names, where they are enough.
use Rattle.std.proofs.Common.{◌≡◌, ℕ, true, false, Some, List, sym, ◌∙◌}
use Rattle.std.specs.List.{list_any}
use Rattle.ada_events.specs.declared.event.Event.{Event}
use Rattle.ada_events.specs.declared.names.Master.{Master}
use Rattle.ada_events.specs.declared.names.Master.TheVariants.{Body, Block}
use Rattle.ada_events.specs.Says.{Call, Closing, call_in, closing_in}
use Rattle.ada_events.specs.Phases.{has_start, is_terminated, has_ended}
use Rattle.ada_events.specs.Nests.{nest}
use Rattle.ada_events.specs.Forced.{task_no}
use Rattle.ada_laws.specs.Suspension.{IsSuspendedAt}
use Rattle.ada_standing.specs.Renaming.{Renaming}
use Rattle.ada_standing.specs.Holds.{IsSameHold}
use Rattle.ada_standing.specs.StandsIn.{StandsIn, KeepsTasks, KeepsPositions, IsSameTask, IsSameDependent, IsSameNest, IsSameActive}
use Rattle.ada_events.specs.Holders.{is_block}
use Rattle.ada_standing.specs.StandsIn.{is_live, made_within}
use Rattle.ada_standing.specs.Fewer.{AreEnough}
use Rattle.ada_standing.proofs.alike.Orderly.{IsOrderly, IsLivedIn}
use Rattle.ada_standing.proofs.alike.Pairs.{live_back}
use Rattle.ada_standing.proofs.chained.Enough.{live_named, task_kept, parents_kept, within_kept, members_kept, block_kept, outcome_kept, activator_kept}

-- what is used of the first journal: no task is suspended at a call to a terminated task; a live task is within the block
-- that it is closing; and what a live task was made within that no start names, live tasks are within
pub record IsQuiet (journal : List Event) : Type 0 where
  pub orderly : IsOrderly journal
  pub callees : (u p : ℕ) (held : IsSuspendedAt journal u p) (c : Call) → call_in held.event ≡ Some c → is_terminated journal c.callee ≡ false
  pub closes : (u p : ℕ) (held : IsSuspendedAt journal u p) (k : Closing) → closing_in held.event ≡ Some k
      → (is_live journal u ≡ true) × (list_any (is_block k.block) (nest journal u) ≡ true)
  pub within : (u : ℕ) (m : Master) → is_live journal u ≡ true → has_start journal u ≡ false → made_within journal u ≡ Some m → IsLivedIn journal m

module _ (old new : List Event) (names fewer : Renaming) (stands : StandsIn old new names) (enough : AreEnough old names fewer) (quiet : IsQuiet old) where
  tasks_fewer : KeepsTasks old new fewer
  tasks_fewer = record {
    main = enough.main ∙ stands.tasks.main;
    live = λ u live.
        let (v, named) = stands.tasks.live u live in
        (v, enough.live u live ∙ named);
    rising = λ s t u v one other less. stands.tasks.rising s t u v (enough.tasks s u one) (enough.tasks t v other) less;
    others = λ v live.
        let (u, named, lives) = live_back old new names v stands live in
        (u, enough.live u lives ∙ named);
  }

  positions_fewer : KeepsPositions old new fewer
  positions_fewer = record {
    within = λ p a placed. stands.positions.within p a (enough.positions p a placed);
    one = λ p q a one other. stands.positions.one p q a (enough.positions p a one) (enough.positions q a other);
    holds = λ s t p q a b d e kind one other less.
        stands.positions.holds s t p q a b d e kind (enough.positions p a one) (enough.positions q b other) less;
    blocks = λ s t p q a b live lives within inside one other less.
        stands.positions.blocks s t p q a b live lives within inside (enough.positions p a one) (enough.positions q b other) less;
  }

  same_fewer : (u v : ℕ) → fewer.task u ≡ Some v → IsSameTask old new fewer u v
  same_fewer u v named =
      let same = stands.same u v (enough.tasks u v named) in
      record {
        existed = same.existed;
        exists = same.exists;
        terminated = same.terminated;
        families = same.families;
        activator = same.activator ∙ sym (activator_kept old new names fewer stands enough u);
        outcome = outcome_kept old new names fewer stands enough u v named ∙ same.outcome;
      }

  dependents_fewer : (u v : ℕ) → fewer.task u ≡ Some v → is_terminated old u ≡ false → IsSameDependent old new fewer u v
  dependents_fewer u v named still =
      let was = enough.tasks u v named in
      let same = stands.dependents u v was still in
      let live = live_named old new names fewer stands enough u v was still in
      record {
        master =
            same.master
            ∙ sym (parents_kept old new names fewer stands enough quiet.orderly (Body (task_no u)) (IsLivedIn.body (task_no u) live));
        completed = same.completed;
        named = same.named;
        within = λ none.
            same.within none
            ∙ sym (within_kept old new names fewer stands enough (made_within old u) (λ m is. quiet.within u m live none is));
        abandoned = same.abandoned;
      }

  nests_fewer : (u v : ℕ) → fewer.task u ≡ Some v → is_terminated old u ≡ false → IsSameNest old new fewer u v
  nests_fewer u v named still =
      let was = enough.tasks u v named in
      let same = stands.nests u v was still in
      let live = live_named old new names fewer stands enough u v was still in
      record {
        members = same.members ∙ sym (members_kept old new names fewer stands enough u live);
        blocks = λ p q within placed.
            let block = same.blocks p q within (enough.positions p q placed) in
            record {
              within =
                  block.within
                  ∙ sym (parents_kept old new names fewer stands enough quiet.orderly (Block p) (IsLivedIn.block u p live within));
              complete = block.complete;
            };
      }

  hold_fewer : (u p q : ℕ) (held : IsSuspendedAt old u p) (e : Event) → IsSameHold old new names p q held.event e
      → IsSameHold old new fewer p q held.event e
  hold_fewer u p q held e (IsSameHold.call c b is has same) =
      IsSameHold.call c b is has
      (record {
        callee = task_kept old new names fewer stands enough c.callee (quiet.callees u p held c is) ∙ same.callee;
        entry = same.entry;
        met = same.met;
        conditional = same.conditional;
        due = same.due;
      })
  hold_fewer u p q held e (IsSameHold.wait w v is has same) = IsSameHold.wait w v is has same
  hold_fewer u p q held e (IsSameHold.pause a b is has same) = IsSameHold.pause a b is has same
  hold_fewer u p q held e (IsSameHold.start s r is has same) =
      IsSameHold.start s r is has
      (record { pending = λ t v named waits. same.pending t v (enough.tasks t v named) waits; failed = same.failed })
  hold_fewer u p q held e (IsSameHold.close a b is has same) =
      let inside = quiet.closes u p held a is in
      IsSameHold.close a b is has (block_kept old new names fewer stands enough u a.block inside.0 inside.1 ∙ same)

  active_fewer : (u v : ℕ) → fewer.task u ≡ Some v → has_ended old u ≡ false → IsSameActive old new fewer u v
  active_fewer u v named active =
      let same = stands.active u v (enough.tasks u v named) active in
      record {
        started = same.started;
        elaborated = same.elaborated;
        abnormal = same.abnormal;
        suspended = same.suspended;
        held = λ p held.
            let one = same.held p held in
            record {
              at = one.at;
              renamed = enough.held u p held ∙ one.renamed;
              held = one.held;
              alike = hold_fewer u p one.at held one.held.event one.alike;
            };
      }

  pub fewer_stand_in : StandsIn old new fewer
  fewer_stand_in = record {
    moments = stands.moments;
    tasks = tasks_fewer;
    positions = positions_fewer;
    same = same_fewer;
    dependents = dependents_fewer;
    nests = nests_fewer;
    active = active_fewer;
  }
