-- What tasks are told in a journal, and in one that stands in for it: the same.
use Rattle.std.proofs.Common.{◌≡◌, ℕ, suc, true, false, cond, Option, Some, None, List, [], ◌∷◌, refl, sym, ap, ◌∙◌, subst}
use Rattle.std.specs.Option.{option_map_or}
use Rattle.std.specs.List.{range_with_len}
use Rattle.std.specs.Cmp.{both_ways}
use Rattle.std.proofs.lemmas.Option.{same_Some}
use Rattle.ada_events.specs.declared.event.Event.{Event}
use Rattle.ada_events.specs.declared.outcome.Outcome.{Outcome}
use Rattle.ada_events.specs.declared.outcome.Outcome.TheVariants.{Dead, Done, Held, Served, TaskingError, Cancelled, Accepted, TookElse, TookDelay}
use Rattle.ada_events.specs.declared.outcome.Outcome.TheVariants.{ProgramError, Awake, ActivationOk, ActivationFailed, BlockLeft, Raised, Nothing}
use Rattle.ada_events.specs.Says.{held_in}
use Rattle.ada_events.specs.Outcomes.{outcome_of}
use Rattle.ada_laws.specs.Suspension.{IsSuspendedAt}
use Rattle.ada_laws.specs.Unlimited.{IsLawfulUnlimited}
use Rattle.ada_laws.proofs.searching.Searching.{is_number-some, is_number-from, option_map-some}
use Rattle.ada_standing.specs.Renaming.{Renaming, renamed_outcome}
use Rattle.ada_standing.specs.StandsIn.{StandsIn}
use Rattle.ada_standing.proofs.lawful.Orderly.{lawful_orderly}
use Rattle.ada_standing.proofs.alike.Mastering.{task_one}
use Rattle.ada_standing.proofs.alike.Pairs.{pair_back}
use Rattle.ada_waiting.specs.Reasons.{suspended_at}
use Rattle.ada_waiting.proofs.Holding.{suspended_at_is-unlimited, suspended_at_from}
use Rattle.ada_behaviours.specs.Behaviours.{Behaviour}
use Rattle.ada_behaviours.specs.Moves.{runs, is_gone, Tasks, task_of, is_held_at, held_object, told, told_one, told_all}
use Rattle.ada_behaviours.specs.Same.{renamed_object, AreRenamed}
use Rattle.ada_behaviours.proofs.Lists.{fold_alike}
use Rattle.ada_behaviours.proofs.Phases.{runs_alike, gone_alike}
use Rattle.ada_behaviours.proofs.Objects.{IsSame, stands, none_stands, task_alike}

-- ---- who is held up at a position

held_from : (journal : List Event) (p u : ℕ) → is_held_at journal p u ≡ true → IsSuspendedAt journal u p
held_from journal p u held = suspended_at_from journal u p (is_number-some p (suspended_at journal u) held)

held_is : (journal : List Event) (p u : ℕ) → IsLawfulUnlimited journal → IsSuspendedAt journal u p → is_held_at journal p u ≡ true
held_is journal p u lawful held = is_number-from p (suspended_at journal u) (suspended_at_is-unlimited journal u p lawful held)

module _ (old new : List Event) (names : Renaming) (standing : StandsIn old new names) (lawful : IsLawfulUnlimited old)
    (lawful_too : IsLawfulUnlimited new) where
  held_forth : (u v p q : ℕ) → names.task u ≡ Some v → names.position p ≡ Some q → is_held_at old p u ≡ true → is_held_at new q v ≡ true
  held_forth u v p q named placed held =
      let here = held_from old p u held in
      let there = (standing.active u v named here.live).held p here in
      held_is new q v lawful_too (subst (λ (at : ℕ). IsSuspendedAt new v at) (same_Some there.at q (sym there.renamed ∙ placed)) there.held)

  held_back : (u v p q : ℕ) → names.task u ≡ Some v → names.position p ≡ Some q → is_held_at new q v ≡ true → is_held_at old p u ≡ true
  held_back u v p q named placed held =
      let there = held_from new q v held in
      let (r, pair) = pair_back old new names v q standing (lawful_orderly old lawful) (lawful_orderly new lawful_too) there in
      let here : r ≡ p = standing.positions.one r p q pair.placed placed in
      let one : pair.holds.event ≡ there.event = same_Some pair.holds.event there.event (sym pair.holds.stands ∙ there.stands) in
      let stand : pair.stand ≡ v = same_Some pair.stand v (sym pair.holds.holds ∙ ap held_in one ∙ there.holds) in
      let task : pair.task ≡ u = task_one old new names pair.task u v standing.tasks (pair.named ∙ ap Some stand) named in
      held_is old p u lawful (subst (λ (t : ℕ). IsSuspendedAt old t p) task (subst (λ (at : ℕ). IsSuspendedAt old pair.task at) here pair.held))

  held_alike : (u v p q : ℕ) → names.task u ≡ Some v → names.position p ≡ Some q → is_held_at old p u ≡ is_held_at new q v
  held_alike u v p q named placed =
      both_ways (is_held_at old p u) (is_held_at new q v) (held_forth u v p q named placed) (held_back u v p q named placed)

  object_alike : (p q : ℕ) → names.position p ≡ Some q → (tasks other : Tasks) → AreRenamed names tasks other
      → held_object old tasks p ≡ held_object new other q
  object_alike p q placed [] [] same = refl
  object_alike p q placed [] (b ∷ other) same = absurd (cc)
  object_alike p q placed (a ∷ tasks) [] same = absurd (cc)
  object_alike p q placed (a ∷ tasks) (b ∷ other) same =
      let head : Some b ≡ renamed_object names a = cc in
      let later = object_alike p q placed tasks other (cc) in
      ap (λ h. cond h 0 (suc (held_object old tasks p))) (by a head)
      ∙ ap (λ n. cond (option_map_or (is_held_at new q) b false) 0 (suc n)) later
    where
      by : (o : Option ℕ) → Some b ≡ renamed_object names o → option_map_or (is_held_at old p) o false ≡ option_map_or (is_held_at new q) b false
      by None is = sym (ap (λ n. option_map_or (is_held_at new q) n false) (none_stands names b (sym is)))
      by (Some u) is =
          let there = stands names u b (sym is) in
          held_alike u there.stand p q there.named placed ∙ sym (ap (λ n. option_map_or (is_held_at new q) n false) there.is)

  -- ---- outcomes

  module _ (tasks other : Tasks) (same : AreRenamed names tasks other) where
    plain : (outcome b : Outcome) → told new other outcome ≡ outcome → Some outcome ≡ Some b → outcome ≡ told new other b
    plain outcome b is renamed = sym is ∙ ap (told new other) (same_Some outcome b renamed)

    outcome_alike : (a b : Outcome) → renamed_outcome names a ≡ Some b → told old tasks a ≡ told new other b
    unfolding renamed_outcome
    outcome_alike Dead b is = plain Dead b refl is
    outcome_alike Done b is = plain Done b refl is
    outcome_alike Held b is = plain Held b refl is
    outcome_alike Served b is = plain Served b refl is
    outcome_alike TaskingError b is = plain TaskingError b refl is
    outcome_alike Cancelled b is = plain Cancelled b refl is
    outcome_alike (Accepted p choice) b is =
        let (q, placed, made) = option_map-some (λ c. Accepted c choice) (names.position p) b is in
        ap (λ o. Accepted o choice) (object_alike p q placed tasks other same) ∙ ap (told new other) made
    outcome_alike TookElse b is = plain TookElse b refl is
    outcome_alike (TookDelay number) b is = plain (TookDelay number) b refl is
    outcome_alike ProgramError b is = plain ProgramError b refl is
    outcome_alike Awake b is = plain Awake b refl is
    outcome_alike ActivationOk b is = plain ActivationOk b refl is
    outcome_alike ActivationFailed b is = plain ActivationFailed b refl is
    outcome_alike BlockLeft b is = plain BlockLeft b refl is
    outcome_alike Raised b is = plain Raised b refl is
    outcome_alike Nothing b is = plain Nothing b refl is

    -- ---- what an object is told

    module _ {State : Type 0} (behaviour : Behaviour State) where
      one_alike : (state : State) (object : ℕ) → told_one behaviour old tasks state object ≡ told_one behaviour new other state object
      one_alike state object = by (task_of tasks object) (task_alike names tasks other object same)
        where
          told_by : List Event → Tasks → Option ℕ → State
          told_by journal all o =
              elim o [
                | None ↦ state
                | Some task ↦
                    cond (is_gone journal task) (behaviour.ended state object)
                    (cond (runs journal task) (behaviour.let_go state object (told journal all (outcome_of journal task))) state)
              ]

          by : (o : Option ℕ) → IsSame names o (task_of other object) → told_by old tasks o ≡ told_by new other (task_of other object)
          by None is = sym (ap (told_by new other) (none_stands names (task_of other object) is))
          by (Some u) is =
              let there = stands names u (task_of other object) is in
              let alike = standing.same u there.stand there.named in
              let run = runs_alike old new names u there.stand standing there.named in
              let gone = gone_alike old new names u there.stand standing there.named in
              let out = outcome_alike (outcome_of old u) (outcome_of new there.stand) alike.outcome in
              ap (λ b.
              cond b (behaviour.ended state object)
              (cond (runs old u) (behaviour.let_go state object (told old tasks (outcome_of old u))) state)) gone
              ∙ ap (λ b.
              cond (is_gone new there.stand) (behaviour.ended state object)
              (cond b (behaviour.let_go state object (told old tasks (outcome_of old u))) state)) run
              ∙ ap (λ o.
              cond (is_gone new there.stand) (behaviour.ended state object)
              (cond (runs new there.stand) (behaviour.let_go state object o) state)) out
              ∙ sym (ap (told_by new other) there.is)

      pub all_alike : (state : State) → told_all behaviour old tasks state ≡ told_all behaviour new other state
      all_alike state =
          fold_alike (told_one behaviour old tasks) (told_one behaviour new other) one_alike state (range_with_len 0 behaviour.objects)
