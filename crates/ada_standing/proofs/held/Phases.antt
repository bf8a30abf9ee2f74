-- What an event releases, meets and ends, it does alike in both journals.
use Rattle.std.proofs.Common.{◌≡◌, ℕ, ◌||◌, eqb, Some, List, ◌∷◌, refl, sym, ◌∙◌, inl, inr}
use Rattle.std.proofs.lemmas.Bool.{cases_Bool}
use Rattle.std.proofs.Math.Bool.{or-true}
use Rattle.ada_events.specs.declared.event.Event.{Event}
use Rattle.ada_events.specs.Search.{is_number, is_some_and}
use Rattle.ada_events.specs.Says.{Meeting, released_in, meeting_in}
use Rattle.ada_events.specs.Phases.{is_released, is_completed, is_terminated, has_ended}
use Rattle.ada_events.specs.Calls.{is_met}
use Rattle.ada_standing.specs.Renaming.{Renaming}
use Rattle.ada_standing.specs.internal.Next.{next_names}
use Rattle.ada_standing.proofs.alike.Kinds.{AreBoth}
use Rattle.ada_standing.proofs.alike.Mastering.{eqb_alike}
use Rattle.ada_standing.proofs.held.Saying.{released_both, meetings_both}
use Rattle.ada_standing.proofs.held.Setting.{AreNext, TerminatedKept, CompletedKept, is_like}

module _ (old new : List Event) (names : Renaming) (event copy : Event) (next : AreNext old new names event copy) where
  pub positions_alike : (p q a b : ℕ) → names.position p ≡ Some a → names.position q ≡ Some b → eqb a b ≡ eqb p q
  positions_alike p q a b first second = sym (eqb_alike names.position p q a b next.stands.positions.one first second)

  releases_alike : (p q : ℕ) → names.position p ≡ Some q → is_number q (released_in copy) ≡ is_number p (released_in event)
  releases_alike p q placed = elim (released_both names event copy (is_like old new names event copy next)) [
    | AreBoth.both x y is has same ↦ rw (is, has) (positions_alike p x q y placed same)
    | AreBoth.neither is has ↦ rw (is, has) refl
  ]

  -- what was released alike is so after the event
  pub released_kept : (p q : ℕ) → names.position p ≡ Some q → is_released new q ≡ is_released old p
      → is_released (copy ∷ new) q ≡ is_released (event ∷ old) p
  unfolding is_released
  released_kept p q placed same = λ t. releases_alike p q placed t || same t

  begins_alike : (p q : ℕ) → names.position p ≡ Some q → is_some_and (meeting_in copy) (λ (m : Meeting). eqb m.call q)
      ≡ is_some_and (meeting_in event) (λ (m : Meeting). eqb m.call p)
  begins_alike p q placed = elim (meetings_both names event copy (is_like old new names event copy next)) [
    | AreBoth.both x y is has same ↦ rw (is, has) (positions_alike x.call p y.call q same.call placed)
    | AreBoth.neither is has ↦ rw (is, has) refl
  ]

  -- and so is what was met alike
  pub met_kept : (p q : ℕ) → names.position p ≡ Some q → is_met new q ≡ is_met old p → is_met (copy ∷ new) q ≡ is_met (event ∷ old) p
  unfolding is_met
  met_kept p q placed same = λ t. begins_alike p q placed t || same t

  -- who stands for a task has ended alike
  pub ended_kept : TerminatedKept old new names event copy → CompletedKept old new names event copy → (u v : ℕ)
      → (next_names old new event names).task u ≡ Some v → has_ended (copy ∷ new) v ≡ has_ended (event ∷ old) u
  unfolding has_ended
  ended_kept terminated_kept completed_kept u v named = elim (cases_Bool (is_terminated (event ∷ old) u)) [
    | inl ended ↦
        rw (terminated_kept u v named, ended) (or-true (is_completed (copy ∷ new) v) ∙ sym (or-true (is_completed (event ∷ old) u)))
    | inr still ↦ rw (terminated_kept u v named, completed_kept u v named still) refl
  ]
