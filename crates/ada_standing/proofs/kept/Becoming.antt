-- The outcomes of tasks are alike after one more event, and so is all that tasks that may be named have in common.
use Rattle.std.proofs.Common.{◌≡◌, ℕ, true, false, Some, List, ◌∷◌, refl, sym, ap, ◌∙◌, inl, inr}
use Rattle.std.proofs.lemmas.Bool.{cases_Bool, or_from, true≢false}
use Rattle.std.proofs.lemmas.Option.{same_Some}
use Rattle.ada_events.specs.declared.event.Event.{Event}
use Rattle.ada_events.specs.declared.event.Way.TheVariants as way
use Rattle.ada_events.specs.declared.outcome.Outcome.{Outcome}
use Rattle.ada_events.specs.declared.outcome.Outcome.TheVariants.{Dead, Done, Held, Raised, Nothing}
use Rattle.ada_events.specs.Search.{is_number}
use Rattle.ada_events.specs.Says.{held_in, released_in}
use Rattle.ada_events.specs.Phases.{is_completed, is_terminated, has_ended, is_suspended}
use Rattle.ada_events.specs.Outcomes.{raised_in, choice_met, released_to, outcome_of}
use Rattle.ada_laws.specs.Suspension.{IsSuspendedAt}
use Rattle.ada_laws.proofs.searching.Searching.{is_number-some}
use Rattle.ada_laws.proofs.searching.Growing.{has_ended-before}
use Rattle.ada_laws.proofs.held.Suspending.{is_suspended-from, is_suspended-at}
use Rattle.ada_standing.specs.Renaming.{Renaming, renamed_outcome}
use Rattle.ada_standing.specs.internal.Next.{next_names}
use Rattle.ada_standing.specs.StandsIn.{IsSameTask}
use Rattle.ada_standing.proofs.alike.Kinds.{AreBoth, waits_alike}
use Rattle.ada_standing.proofs.alike.Pairs.{IsPair}
use Rattle.ada_standing.proofs.alike.Calling.{wait_by}
use Rattle.ada_standing.proofs.alike.Queueing.{taken_choice_alike}
use Rattle.ada_standing.proofs.kept.Saying.{IsLike, held_said, raised_said, released_said, number_alike}
use Rattle.ada_standing.proofs.kept.Naming.{AreNext, AreOld, like, one_task, next_cases, outcome_later}
use Rattle.ada_standing.proofs.kept.Terminating.{unterminated_before, terminated_kept, terminated_old}
use Rattle.ada_standing.proofs.kept.Tasks.{existed_kept, families_kept}
use Rattle.ada_standing.proofs.kept.Phases.{completed_old, ended_old}
use Rattle.ada_standing.proofs.kept.Making.{activator_kept}
use Rattle.ada_standing.proofs.kept.Outcomes.{outcome_dead, outcome_done, outcome_raised, outcome_held, outcome_released, outcome_same, outcome_new}

-- what an event releases becomes the same, where choices are met alike
released_alike : (old new : List Event) (names : Renaming) (e f : Event) (p q : ℕ) → IsLike names e f → released_in e ≡ Some p → released_in f ≡ Some q
    → choice_met old p ≡ choice_met new q → renamed_outcome names (released_to old e) ≡ Some (released_to new f)
unfolding released_in released_to renamed_outcome
released_alike old new names e f p q (IsLike.met c d a b first second) frees frees_too choices =
    let one : a ≡ p = same_Some a p frees in
    let other : b ≡ q = same_Some b q frees_too in
    rw (first, one, other, choices) refl
released_alike old new names e f p q (IsLike.ended by to a b true named placed) frees frees_too choices = refl
released_alike old new names e f p q (IsLike.ended by to a b false named placed) frees frees_too choices = refl
released_alike old new names e f p q (IsLike.passed a b way.Otherwise placed) frees frees_too choices = refl
released_alike old new names e f p q (IsLike.passed a b (way.Delay n) placed) frees frees_too choices = refl
released_alike old new names e f p q (IsLike.passed a b way.ProgramError placed) frees frees_too choices = refl
released_alike old new names e f p q (IsLike.activated a b true placed) frees frees_too choices = refl
released_alike old new names e f p q (IsLike.activated a b false placed) frees frees_too choices = refl
released_alike old new names e f p q _ frees frees_too choices = refl

-- two outcomes, which are known
outcomes_are : (names : Renaming) (o n x y : Outcome) → o ≡ x → n ≡ y → renamed_outcome names x ≡ Some y → renamed_outcome names o ≡ Some n
outcomes_are names o n x y is has same = ap (renamed_outcome names) is ∙ (same ∙ ap Some (sym has))

-- an outcome that names no position
plain : (names : Renaming) → (renamed_outcome names Dead ≡ Some Dead) × (renamed_outcome names Done ≡ Some Done) × (renamed_outcome names Held ≡ Some Held)
    × (renamed_outcome names Raised ≡ Some Raised) × (renamed_outcome names Nothing ≡ Some Nothing)
unfolding renamed_outcome
plain names = (refl, refl, refl, refl, refl)

-- by which choice a wait takes a call, where the waits are held up alike
choices_alike : (old new : List Event) (names : Renaming) (event other : Event) (p q : ℕ) → AreNext old new names event other → IsPair old new names p q
    → choice_met old p ≡ choice_met new q
unfolding choice_met
choices_alike old new names event other p q next pair =
    elim (waits_alike old new names p q pair.held.event pair.holds.event pair.alike) [
      | AreBoth.both w x is has same ↦
          let by : names.task w.by ≡ Some x.by =
          ap names.task (wait_by old pair.task p pair.held w is) ∙ (pair.named ∙ ap Some (sym (wait_by new pair.stand q pair.holds x has))) in
          rw (
            pair.held.stands,
            pair.holds.stands,
            is,
            has,
            taken_choice_alike old new names w x next.stands next.orderly next.also by same,
          ) refl
      | AreBoth.neither is has ↦ rw (pair.held.stands, pair.holds.stands, is, has) refl
    ]

module _ (old new : List Event) (names : Renaming) (event other : Event) (next : AreNext old new names event other) where
  releases_now : (p q : ℕ) → names.position p ≡ Some q → is_number p (released_in event) ≡ is_number q (released_in other)
  releases_now p q placed =
      number_alike names.position (released_in event) (released_in other) p q next.stands.positions.one
      (released_said names event other (like old new names event other next)) placed

  -- neither event is a doing of its task, which was suspended
  suspended_outcome : (u v p : ℕ) → AreOld old new names u v → has_ended (event ∷ old) u ≡ false → is_number u (raised_in event) ≡ false
      → is_number u (held_in event) ≡ false → is_number v (raised_in other) ≡ false → is_number v (held_in other) ≡ false → IsSuspendedAt old u p
      → renamed_outcome names (outcome_of (event ∷ old) u) ≡ Some (outcome_of (other ∷ new) v)
  suspended_outcome u v p was active unraised unheld unraised_too unheld_too held =
      let active_too : has_ended (other ∷ new) v ≡ false = ended_old old new names event other next u v was ∙ active in
      let there = (next.stands.active u v was.named (has_ended-before event old u active)).held p held in
      elim (cases_Bool (is_number p (released_in event))) [
        | inl now ↦
            let now_too : is_number there.at (released_in other) ≡ true = sym (releases_now p there.at there.renamed) ∙ now in
            outcomes_are names (outcome_of (event ∷ old) u) (outcome_of (other ∷ new) v) (released_to old event) (released_to new other)
            (outcome_released event old u p next.fits active unraised unheld held now)
            (outcome_released other new v there.at next.fits_too active_too unraised_too unheld_too there.held now_too)
            (released_alike old new names event other p there.at (like old new names event other next) (is_number-some p (released_in event) now)
            (is_number-some there.at (released_in other) now_too)
            (choices_alike old new names event other p there.at next (record {
              task = u;
              stand = v;
              named = was.named;
              placed = there.renamed;
              held = held;
              holds = there.held;
              alike = there.alike;
            })))
        | inr not_now ↦
            outcomes_are names (outcome_of (event ∷ old) u) (outcome_of (other ∷ new) v) (outcome_of old u) (outcome_of new v)
            (outcome_same event old u next.fits active unraised unheld (λ a at_a.
            ap (λ (n : ℕ). is_number n (released_in event)) (next.orderly.once u a p at_a held) ∙ not_now))
            (outcome_same other new v next.fits_too active_too unraised_too unheld_too (λ b at_b.
            ap (λ (n : ℕ). is_number n (released_in other)) (next.also.once v b there.at at_b there.held)
            ∙ (sym (releases_now p there.at there.renamed) ∙ not_now)))
            (next.stands.same u v was.named).outcome
      ]

  -- nor was it suspended
  free_outcome : (u v : ℕ) → AreOld old new names u v → has_ended (event ∷ old) u ≡ false → is_number u (raised_in event) ≡ false
      → is_number u (held_in event) ≡ false → is_number v (raised_in other) ≡ false → is_number v (held_in other) ≡ false → is_suspended old u ≡ false
      → renamed_outcome names (outcome_of (event ∷ old) u) ≡ Some (outcome_of (other ∷ new) v)
  free_outcome u v was active unraised unheld unraised_too unheld_too free =
      let active_too : has_ended (other ∷ new) v ≡ false = ended_old old new names event other next u v was ∙ active in
      let free_too : is_suspended new v ≡ false = (next.stands.active u v was.named (has_ended-before event old u active)).suspended ∙ free in
      outcomes_are names (outcome_of (event ∷ old) u) (outcome_of (other ∷ new) v) (outcome_of old u) (outcome_of new v)
      (outcome_same event old u next.fits active unraised unheld (λ p held. absurd (true≢false (sym (is_suspended-from old u p held) ∙ free))))
      (outcome_same other new v next.fits_too active_too unraised_too unheld_too (λ q held.
      absurd (true≢false (sym (is_suspended-from new v q held) ∙ free_too))))
      (next.stands.same u v was.named).outcome

  other_doing : (u v : ℕ) → AreOld old new names u v → has_ended (event ∷ old) u ≡ false → is_number u (raised_in event) ≡ false
      → is_number u (held_in event) ≡ false → is_number v (raised_in other) ≡ false → is_number v (held_in other) ≡ false
      → renamed_outcome names (outcome_of (event ∷ old) u) ≡ Some (outcome_of (other ∷ new) v)
  other_doing u v was active unraised unheld unraised_too unheld_too =
      elim (cases_Bool (is_suspended old u)) [
        | inl suspended ↦
            let (p, held) = is_suspended-at old u suspended in
            suspended_outcome u v p was active unraised unheld unraised_too unheld_too held
        | inr free ↦ free_outcome u v was active unraised unheld unraised_too unheld_too free
      ]

  active_outcome : (u v : ℕ) → AreOld old new names u v → has_ended (event ∷ old) u ≡ false
      → renamed_outcome names (outcome_of (event ∷ old) u) ≡ Some (outcome_of (other ∷ new) v)
  active_outcome u v was active =
      let active_too : has_ended (other ∷ new) v ≡ false = ended_old old new names event other next u v was ∙ active in
      let raises = number_alike names.task (raised_in event) (raised_in other) u v (one_task old new names event other next)
      (raised_said names event other (like old new names event other next)) was.named in
      let holds = number_alike names.task (held_in event) (held_in other) u v (one_task old new names event other next)
      (held_said names event other (like old new names event other next)) was.named in
      elim (cases_Bool (is_number u (raised_in event))) [
        | inl now ↦
            outcomes_are names (outcome_of (event ∷ old) u) (outcome_of (other ∷ new) v) Raised Raised (outcome_raised event old u active now)
            (outcome_raised other new v active_too (sym raises ∙ now)) (plain names).3
        | inr unraised ↦
            elim (cases_Bool (is_number u (held_in event))) [
              | inl now ↦
                  outcomes_are names (outcome_of (event ∷ old) u) (outcome_of (other ∷ new) v) Held Held
                  (outcome_held event old u next.fits active unraised now)
                  (outcome_held other new v next.fits_too active_too (sym raises ∙ unraised) (sym holds ∙ now)) (plain names).2
              | inr unheld ↦ other_doing u v was active unraised unheld (sym raises ∙ unraised) (sym holds ∙ unheld)
            ]
      ]

  outcome_old : (u v : ℕ) → AreOld old new names u v → renamed_outcome names (outcome_of (event ∷ old) u) ≡ Some (outcome_of (other ∷ new) v)
  unfolding has_ended
  outcome_old u v was =
      let terminated = terminated_old old new names event other next u v was in
      elim (cases_Bool (is_terminated (event ∷ old) u)) [
        | inl ended ↦
            outcomes_are names (outcome_of (event ∷ old) u) (outcome_of (other ∷ new) v) Dead Dead (outcome_dead (event ∷ old) u ended)
            (outcome_dead (other ∷ new) v (terminated ∙ ended)) (plain names).0
        | inr still ↦
            elim (cases_Bool (is_completed (event ∷ old) u)) [
              | inl completed ↦
                  outcomes_are names (outcome_of (event ∷ old) u) (outcome_of (other ∷ new) v) Done Done (outcome_done (event ∷ old) u still completed)
                  (outcome_done (other ∷ new) v (terminated ∙ still)
                  (completed_old old new names event other next u v was (unterminated_before event old u still) ∙ completed))
                  (plain names).1
              | inr going ↦ active_outcome u v was (or_from (is_completed (event ∷ old) u) (is_terminated (event ∷ old) u) going still)
            ]
      ]

  pub outcome_kept : (u v : ℕ) → (next_names old new event names).task u ≡ Some v
      → renamed_outcome (next_names old new event names) (outcome_of (event ∷ old) u) ≡ Some (outcome_of (other ∷ new) v)
  outcome_kept u v named =
      elim (next_cases old new names event other next u v named) [
        | inl was ↦ outcome_later old new names event other next (outcome_of (event ∷ old) u) (outcome_of (other ∷ new) v) (outcome_old u v was)
        | inr made ↦
            outcomes_are (next_names old new event names) (outcome_of (event ∷ old) u) (outcome_of (other ∷ new) v) Nothing Nothing
            (outcome_new event old u made.creation next.fits made.says made.newest)
            (outcome_new other new v made.stand next.fits_too made.says_too made.newest_too) (plain (next_names old new event names)).4
      ]

  pub same_kept : (u v : ℕ) → (next_names old new event names).task u ≡ Some v
      → IsSameTask (event ∷ old) (other ∷ new) (next_names old new event names) u v
  same_kept u v named =
      let exist = existed_kept old new names event other next u v named in
      record {
        existed = exist.0;
        exists = exist.1;
        terminated = terminated_kept old new names event other next u v named;
        families = families_kept old new names event other next u v named;
        activator = activator_kept old new names event other next u v named;
        outcome = outcome_kept u v named;
      }
