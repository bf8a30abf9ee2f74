-- Positions after one more event: each stands for one, and the order of those at which tasks are held up is kept.
use Rattle.std.proofs.Common.{◌≡◌, ℕ, suc, ◌<◌, ◌≤◌, true, Some, List, ◌∷◌, length, refl, sym, ◌∙◌, arith, inl, inr}
use Rattle.ada_events.specs.declared.event.Event.{Event}
use Rattle.ada_laws.specs.Suspension.{IsSuspendedAt}
use Rattle.ada_laws.proofs.searching.Searching.{event_at-within}
use Rattle.ada_laws.proofs.searching.Growing.{is_released-before, has_ended-before}
use Rattle.ada_standing.specs.Renaming.{Renaming}
use Rattle.ada_standing.specs.internal.Next.{next_names}
use Rattle.ada_standing.specs.Holds.{is_same_kind}
use Rattle.ada_standing.proofs.held.Setting.{AreNext, position_cases, position_existed, position_exists}
use Rattle.ada_events.proofs.Positions.{event_at-other}

-- what a task is suspended at, where that isn't the newest event, it was suspended at before
pub suspended_earlier : (event : Event) (before : List Event) (task p : ℕ) → p ≤ length before → (held : IsSuspendedAt (event ∷ before) task p)
    → (was : IsSuspendedAt before task p) × (was.event ≡ held.event)
suspended_earlier event before task p within held = (
  record {
    event = held.event;
    stands = sym (event_at-other event before p (λ same. omega (arith, same, within))) ∙ held.stands;
    holds = held.holds;
    unreleased = is_released-before event before p held.unreleased;
    live = has_ended-before event before task held.live;
  },
  refl,
)

module _ (old new : List Event) (names : Renaming) (event copy : Event) (next : AreNext old new names event copy) where
  pub within_kept : (p a : ℕ) → (next_names old new event names).position p ≡ Some a → (p ≤ length (event ∷ old)) × (a ≤ length (copy ∷ new))
  within_kept p a placed = elim (position_cases old new names event copy next p a placed) [
    | inl newest ↦
        let first : p ≡ suc (length old) = newest.0 in
        let second : a ≡ suc (length new) = newest.1 in
        (omega (arith, first), omega (arith, second))
    | inr kept ↦
        let first : p ≤ length old = position_existed old new names event copy next p a kept in
        let second : a ≤ length new = position_exists old new names event copy next p a kept in
        (omega (arith, first), omega (arith, second))
  ]

  pub one_kept : (p q a : ℕ) → (next_names old new event names).position p ≡ Some a → (next_names old new event names).position q ≡ Some a → p ≡ q
  one_kept p q a first second = elim (position_cases old new names event copy next p a first) [
    | inl newest ↦ elim (position_cases old new names event copy next q a second) [
      | inl also ↦ newest.0 ∙ sym also.0
      | inr kept ↦
          let low : a ≤ length new = position_exists old new names event copy next q a kept in
          absurd (omega (arith, low, newest.1))
    ]
    | inr was ↦ elim (position_cases old new names event copy next q a second) [
      | inl newest ↦
          let low : a ≤ length new = position_exists old new names event copy next p a was in
          absurd (omega (arith, low, newest.1))
      | inr kept ↦ next.stands.positions.one p q a was kept
    ]
  ]

  -- the newest position is the last of all; between older ones what decides is what was so before
  pub order_kept : (p q a b : ℕ) → (next_names old new event names).position p ≡ Some a → (next_names old new event names).position q ≡ Some b → p < q
      → q ≤ length (event ∷ old) → (names.position p ≡ Some a → names.position q ≡ Some b → q ≤ length old → a < b) → a < b
  order_kept p q a b first second less within earlier = elim (position_cases old new names event copy next p a first) [
    | inl newest ↦ absurd (omega (arith, newest.0, less, within))
    | inr was ↦
        let low : a ≤ length new = position_exists old new names event copy next p a was in
        elim (position_cases old new names event copy next q b second) [
          | inl newest ↦
              let high : b ≡ suc (length new) = newest.1 in
              omega (arith, low, high)
          | inr kept ↦ earlier was kept (position_existed old new names event copy next q b kept)
        ]
  ]

  pub holds_kept : (s t p q a b : ℕ) (d : IsSuspendedAt (event ∷ old) s p) (e : IsSuspendedAt (event ∷ old) t q) → is_same_kind d.event e.event ≡ true
      → (next_names old new event names).position p ≡ Some a → (next_names old new event names).position q ≡ Some b → p < q → a < b
  holds_kept s t p q a b d e kind first second less =
      order_kept p q a b first second less (event_at-within (event ∷ old) q e.event e.stands) (λ was kept within.
      let (one, is) = suspended_earlier event old s p (omega (arith, less, within)) d in
      let (other, has) = suspended_earlier event old t q within e in
      next.stands.positions.holds s t p q a b one other (rw (is, has) kind) was kept less)
