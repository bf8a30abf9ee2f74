-- A task stands for another one; all tasks, and all positions do.
use Rattle.std.proofs.Common.{◌≡◌, ℕ, ◌<◌, ◌+◌, true, Some, List, length, sym, ◌∙◌, subst, arith, inl, inr}
use Rattle.std.proofs.lemmas.Bool.{true≢false, or_left, or_right, cases_lt, and_parts, ltb-true}
use Rattle.ada_events.specs.declared.event.Event.{Event}
use Rattle.ada_events.specs.Phases.{is_completed, is_terminated, has_ended}
use Rattle.std.specs.Prelude.{not, slice_get}
use Rattle.std.specs.Option.{option_map}
use Rattle.std.proofs.lemmas.Option.{slice_get_within}
use Rattle.ada_events.specs.declared.names.TaskNo.{TaskNo}
use Rattle.ada_events.specs.Tasks.{task_count, has_task, moment}
use Rattle.ada_laws.proofs.searching.Searching.{option_and_then-some}
use Rattle.ada_standing.specs.Renaming.{Renaming}
use Rattle.ada_standing.specs.Names.{Names, named, renaming_of}
use Rattle.ada_standing.specs.StandsIn.{is_live, IsSameTask, IsSameDependent, IsSameNest, KeepsPositions, StandsIn}
use Rattle.ada_compact.specs.internal.Keeping.{IsStandIn, IsKeptRight, RisesBelow, AreTasksRight}

module _ (old new : List Event) (names : Renaming) (u v : ℕ) where
  pub terminated_stands : IsSameTask old new names u v → is_terminated old u ≡ true → IsStandIn old new names u v
  unfolding has_ended
  terminated_stands same over = record {
    same = same;
    dependent = λ live. absurd (true≢false (sym over ∙ live));
    nest = λ live. absurd (true≢false (sym over ∙ live));
    active = λ live. absurd (true≢false (sym (or_right (is_completed old u) (is_terminated old u) over) ∙ live));
  }

  pub completed_stands : IsSameTask old new names u v → IsSameDependent old new names u v → IsSameNest old new names u v → is_completed old u ≡ true
      → IsStandIn old new names u v
  unfolding has_ended
  completed_stands same dependent nest over = record {
    same = same;
    dependent = λ live. dependent;
    nest = λ live. nest;
    active = λ live. absurd (true≢false (sym (or_left (is_completed old u) (is_terminated old u) over) ∙ live));
  }

-- what holds of each number below one, and of this one, holds of each below the next
pub one_more : (P : ℕ → Type 0) (n : ℕ) → ((u : ℕ) → u < n → P u) → P n → (u : ℕ) → u < n + 1 → P u
one_more P n below here u within =
    elim (cases_lt u n) [
      | inl less ↦ below u less
      | inr least ↦ subst P {x = n} (omega (arith, least, within)) here
    ]

-- a task that may still be named is one of the first so many
named_within : (names : Names) (u v : ℕ) → named names.tasks u ≡ Some v → u < length names.tasks
named_within names u v is =
    let (found, here, _) = option_and_then-some (λ found. option_map (λ (t : TaskNo). t.0) found) (slice_get names.tasks u) v is in
    slice_get_within names.tasks u found here

pub tasks_right : (old new : List Event) (names : Names) → length names.tasks ≡ task_count old → named names.tasks 0 ≡ Some 0
    → ((u : ℕ) → u < task_count old → IsKeptRight old new (renaming_of names) u)
    → ((v : ℕ) → v < task_count new → is_live new v ≡ true → (u : ℕ) × (named names.tasks u ≡ Some v))
    → ((low : ℕ) × RisesBelow (renaming_of names) (length names.tasks) low) → AreTasksRight old new (renaming_of names)
tasks_right old new names many main kept accounted rise = record {
  keeps = record {
    main = main;
    live = λ u live. (kept u (ltb-true u (task_count old) (and_parts (has_task old u) (not (is_terminated old u)) live).0)).live live;
    rising = λ s t u v first second less. rise.1.rising s t u v less (named_within names t v second) first second;
    others = λ v live. accounted v (ltb-true v (task_count new) (and_parts (has_task new v) (not (is_terminated new v)) live).0) live;
  };
  stands = λ u v is.
      let within : u < length names.tasks = named_within names u v is in
      (kept u (omega (arith, within, many))).stands v is;
}

pub standing_in : (old new : List Event) (names : Renaming) → moment new ≡ moment old → KeepsPositions old new names → AreTasksRight old new names
    → StandsIn old new names
standing_in old new names moments positions right = record {
  moments = moments;
  tasks = right.keeps;
  positions = positions;
  same = λ u v is. (right.stands u v is).same;
  dependents = λ u v is live. (right.stands u v is).dependent live;
  nests = λ u v is live. (right.stands u v is).nest live;
  active = λ u v is live. (right.stands u v is).active live;
}
