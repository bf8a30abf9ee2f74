-- Blocks are left alike by one more event of both journals.
use Rattle.std.proofs.Common.{◌≡◌, ℕ, true, false, ◌&&◌, eqb, Some, List, ◌∷◌, sym, ap, ◌∙◌, inl, inr}
use Rattle.std.proofs.lemmas.Bool.{and_parts, and_from, or_cases, or_left, eqb-true, eq-eqb, true≢false}
use Rattle.std.proofs.lemmas.Option.{none-some, same_Some}
use Rattle.ada_events.specs.declared.event.Event.{Event}
use Rattle.ada_events.specs.Search.{is_number, event_at}
use Rattle.ada_events.specs.Says.{Closing, closing_in, left_in}
use Rattle.ada_events.specs.Nests.{is_left_close, is_left}
use Rattle.ada_events.specs.Calls.{is_pending}
use Rattle.ada_events.specs.Termination.{all_terminated}
use Rattle.ada_events.specs.declared.names.Master.TheVariants.{Block}
use Rattle.ada_events.specs.Forced.{is_to_leave}
use Rattle.ada_laws.specs.Suspension.{IsSuspendedAt}
use Rattle.ada_laws.proofs.searching.Searching.{event_at-older, event_at-cases, any_event-found, any_event-from, is_number-some, is_number-from}
use Rattle.ada_laws.proofs.searching.Searching.{option_map_or-true}
use Rattle.ada_laws.proofs.searching.Saying.{held_in-closing}
use Rattle.ada_laws.proofs.forced.Stepping.{pending_parts}
use Rattle.ada_laws.proofs.within.Parents.{same_truth}
use Rattle.ada_laws.proofs.forced.Parts.{closes_block}
use Rattle.ada_standing.specs.Renaming.{Renaming}
use Rattle.ada_standing.proofs.alike.Kinds.{AreBoth, closes_alike}
use Rattle.ada_standing.proofs.alike.Pairs.{pair_forth}
use Rattle.ada_standing.proofs.lawful.Leaving.{IsLeaving, Leaves}
use Rattle.ada_standing.proofs.held.Saying.{left_both}
use Rattle.ada_standing.proofs.held.Fitting.{FitsHeld}
use Rattle.ada_standing.proofs.held.Setting.{AreNext, is_like}

-- a close that is followed by leaving its block holds its task up
leaving_suspends : (journal : List Event) (close : ℕ) (gone : IsLeaving journal close) → IsSuspendedAt journal gone.closing.by close
unfolding is_to_leave
leaving_suspends journal close gone =
    let pending = (and_parts (is_pending journal close gone.closing.by) (all_terminated journal (Block gone.closing.block)) gone.leave).0 in
    let parts = pending_parts journal close gone.closing.by pending in
    record {
      event = gone.closed;
      stands = gone.stands;
      holds = held_in-closing gone.closed gone.closing gone.says;
      unreleased = parts.0;
      live = parts.1;
    }

-- a block that wasn't left before is left by the event
pub left_now : (event : Event) (before : List Event) (p : ℕ) → FitsHeld before event → is_left before p ≡ false → is_left (event ∷ before) p ≡ true
    → Leaves event before p
unfolding is_left is_left_close
left_now event before p fits unleft left =
    let (q, e, at, passes) = any_event-found (λ q e. closes_block p e && is_left_close (event ∷ before) q) (event ∷ before) left in
    let both = and_parts (closes_block p e) (is_left_close (event ∷ before) q) passes in
    let (k, says, closes) = option_map_or-true (λ (c : Closing). eqb c.block p) (closing_in e) both.0 in
    elim (event_at-cases event before q e at) [
      | inl newest ↦
          absurd (true≢false (sym both.1 ∙ (ap (is_left_close (event ∷ before)) newest.0 ∙ fits.unleft)))
      | inr older ↦
          elim (or_cases (is_number q (left_in event)) (is_left_close before q) both.1) [
            | inl now ↦
                let leaves = is_number-some q (left_in event) now in
                let gone = fits.leaves q leaves in
                let one : gone.closed ≡ e = same_Some gone.closed e (sym gone.stands ∙ older) in
                let same : gone.closing ≡ k = same_Some gone.closing k (sym gone.says ∙ (ap closing_in one ∙ says)) in
                record { close = q; leaves = leaves; gone = gone; block = ap (λ (c : Closing). c.block) same ∙ eqb-true k.block p closes }
            | inr was ↦
                absurd (true≢false (sym (any_event-from (λ q e. closes_block p e && is_left_close before q) before q e older
                (and_from (closes_block p e) (is_left_close before q) both.0 was)) ∙ unleft))
          ]
    ]

-- and what the event leaves is left
pub leaves_left : (event : Event) (before : List Event) (p : ℕ) → Leaves event before p → is_left (event ∷ before) p ≡ true
unfolding is_left is_left_close
leaves_left event before p leaves =
    any_event-from (λ q e. closes_block p e && is_left_close (event ∷ before) q) (event ∷ before) leaves.close leaves.gone.closed
    (event_at-older event before leaves.close leaves.gone.closed leaves.gone.stands)
    (and_from (closes_block p leaves.gone.closed) (is_left_close (event ∷ before) leaves.close)
    (rw leaves.gone.says (eq-eqb leaves.gone.closing.block p leaves.block))
    (or_left (is_number leaves.close (left_in event)) (is_left_close before leaves.close) (is_number-from leaves.close (left_in event) leaves.leaves)))

module _ (old new : List Event) (names : Renaming) (event copy : Event) (next : AreNext old new names event copy) where
  -- what is left by both stands for one another
  leaving_alike : (p q : ℕ) → names.position p ≡ Some q → (gone : IsLeaving old p) (left : IsLeaving new q)
      → names.position gone.closing.block ≡ Some left.closing.block
  leaving_alike p q placed gone left =
      let (a, pair) = pair_forth old new names gone.closing.by p next.stands next.orderly (leaving_suspends old p gone) in
      let at : a ≡ q = same_Some a q (sym pair.placed ∙ placed) in
      let one : pair.held.event ≡ gone.closed = same_Some pair.held.event gone.closed (sym pair.held.stands ∙ gone.stands) in
      let other : pair.holds.event ≡ left.closed =
      same_Some pair.holds.event left.closed (sym pair.holds.stands ∙ (ap (event_at new) at ∙ left.stands)) in
      elim (closes_alike old new names p a pair.held.event pair.holds.event pair.alike) [
        | AreBoth.both k l is has same ↦
            let first : k ≡ gone.closing = same_Some k gone.closing (sym is ∙ (ap closing_in one ∙ gone.says)) in
            let second : l ≡ left.closing = same_Some l left.closing (sym has ∙ (ap closing_in other ∙ left.says)) in
            ap (λ (c : Closing). names.position c.block) (sym first) ∙ (same ∙ ap (λ (c : Closing). Some c.block) second)
        | AreBoth.neither is has ↦ absurd (none-some gone.closing (sym is ∙ (ap closing_in one ∙ gone.says)))
      ]

  leaves_forth : (p q : ℕ) → names.position p ≡ Some q → Leaves event old p → Leaves copy new q
  leaves_forth p q placed leaves = elim (left_both names event copy (is_like old new names event copy next)) [
    | AreBoth.both x y is has same ↦
        let at : x ≡ leaves.close = same_Some x leaves.close (sym is ∙ leaves.leaves) in
        let gone = next.fitted.leaves y has in
        let blocks = leaving_alike leaves.close y (ap names.position (sym at) ∙ same) leaves.gone gone in
        record {
          close = y;
          leaves = has;
          gone = gone;
          block = same_Some gone.closing.block q (sym blocks ∙ (ap names.position leaves.block ∙ placed));
        }
    | AreBoth.neither is has ↦ absurd (none-some leaves.close (sym is ∙ leaves.leaves))
  ]

  leaves_back : (p q : ℕ) → names.position p ≡ Some q → Leaves copy new q → Leaves event old p
  leaves_back p q placed leaves = elim (left_both names event copy (is_like old new names event copy next)) [
    | AreBoth.both x y is has same ↦
        let at : y ≡ leaves.close = same_Some y leaves.close (sym has ∙ leaves.leaves) in
        let gone = next.fits.leaves x is in
        let blocks = leaving_alike x leaves.close (same ∙ ap Some at) gone leaves.gone in
        record {
          close = x;
          leaves = is;
          gone = gone;
          block = next.stands.positions.one gone.closing.block p q (blocks ∙ ap Some leaves.block) placed;
        }
    | AreBoth.neither is has ↦ absurd (none-some leaves.close (sym has ∙ leaves.leaves))
  ]

  -- of blocks that aren't left, the one is left as the other is
  pub left_alike : (p q : ℕ) → names.position p ≡ Some q → is_left old p ≡ false → is_left new q ≡ false
      → is_left (copy ∷ new) q ≡ is_left (event ∷ old) p
  left_alike p q placed unleft still =
      same_truth (is_left (copy ∷ new) q) (is_left (event ∷ old) p)
      (λ left. leaves_left event old p (leaves_back p q placed (left_now copy new q next.fitted still left)))
      (λ left. leaves_left copy new q (leaves_forth p q placed (left_now event old p next.fits unleft left)))
