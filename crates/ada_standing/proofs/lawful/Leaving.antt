-- Blocks that are left.
use Rattle.std.proofs.Common.{◌≡◌, ℕ, suc, ◌≤◌, true, ◌&&◌, eqb, Some, List, [], ◌∷◌, length, sym, ap, ◌∙◌, subst, arith, ◌⊎◌}
use Rattle.std.proofs.Common.{inl, inr}
use Rattle.std.specs.List.{list_any}
use Rattle.std.proofs.lemmas.Bool.{and_parts, and_from, or_cases, eqb-true, false≢true}
use Rattle.std.proofs.lemmas.Option.{none-some, same_Some}
use Rattle.ada_events.specs.declared.event.Event.{Event}
use Rattle.ada_events.specs.Search.{is_number, is_some_and, event_at}
use Rattle.ada_events.specs.Says.{Closing, closing_in, left_in}
use Rattle.ada_events.specs.Nests.{is_left_close, is_left}
use Rattle.ada_events.specs.Forced.{is_to_leave}
use Rattle.ada_events.specs.Lawful.{MayFollow}
use Rattle.ada_laws.specs.Unlimited.{IsLawfulUnlimited, refusal_but_limits}
use Rattle.ada_laws.proofs.searching.Searching.{event_at-cases, event_at-within, any_event-found, any_event-from, is_number-some, option_map_or-true}
use Rattle.ada_laws.proofs.forced.Rows.{IsRow, forced-row}
use Rattle.ada_laws.proofs.forced.Rows.IsRow.{leaves}
use Rattle.ada_laws.proofs.within.Leaving.{left_in-asked}

-- a close that is followed by leaving its block
pub record IsLeaving (journal : List Event) (close : ℕ) : Type 0 where
  pub closed : Event
  pub closing : Closing
  pub stands : event_at journal close ≡ Some closed
  pub says : closing_in closed ≡ Some closing
  pub leave : is_to_leave journal close closing ≡ true

row_leaving : (journal : List Event) (event : Event) (close : ℕ) → IsRow journal event → left_in event ≡ Some close → IsLeaving journal close
unfolding left_in
row_leaving journal event close (leaves p e closing at says leave) is =
    subst (IsLeaving journal) (same_Some p close is) (record { closed = e; closing = closing; stands = at; says = says; leave = leave })
row_leaving journal event close _ is = absurd (none-some close is)

pub leaving : (event : Event) (before : List Event) (close : ℕ) → MayFollow refusal_but_limits before event → left_in event ≡ Some close
    → IsLeaving before close
leaving event before close (inl forces) is = row_leaving before event close (forced-row before event forces) is
leaving event before close (inr asked) is =
    absurd (none-some close (sym (left_in-asked before asked.request) ∙ (ap left_in (sym asked.becomes) ∙ is)))

leaving_within : (event : Event) (before : List Event) (close : ℕ) → MayFollow refusal_but_limits before event → left_in event ≡ Some close
    → close ≤ length before
leaving_within event before close follows is =
    let gone = leaving event before close follows is in
    event_at-within before close gone.closed gone.stands

left_within : (journal : List Event) (close : ℕ) → IsLawfulUnlimited journal → is_left_close journal close ≡ true → close ≤ length journal
unfolding is_left_close
left_within [] close lawful left = absurd (false≢true left)
left_within (event ∷ before) close lawful left =
    elim (or_cases (is_number close (left_in event)) (list_any (λ (e : Event). is_number close (left_in e)) before) left) [
      | inl now ↦
          let within : close ≤ length before = leaving_within event before close lawful.1 (is_number-some close (left_in event) now) in
          omega arith
      | inr was ↦
          let within : close ≤ length before = left_within before close lawful.0 was in
          omega arith
    ]

-- what comes next is no close that is followed by leaving
next_unleft : (event : Event) (before : List Event) → IsLawfulUnlimited (event ∷ before) → is_left_close (event ∷ before) (suc (length before)) ≡ true
    → ⊥
unfolding is_left_close
next_unleft event before lawful left =
    elim (or_cases (is_number (suc (length before)) (left_in event)) (list_any (λ (e : Event). is_number (suc (length before)) (left_in e)) before) left) [
      | inl now ↦
          let within : suc (length before) ≤ length before =
          leaving_within event before (suc (length before)) lawful.1 (is_number-some (suc (length before)) (left_in event) now) in
          omega arith
      | inr was ↦
          let within : suc (length before) ≤ length before = left_within before (suc (length before)) lawful.0 was in
          omega arith
    ]

-- the event leaves the block
pub record Leaves (event : Event) (before : List Event) (p : ℕ) : Type 0 where
  pub close : ℕ
  pub leaves : left_in event ≡ Some close
  pub gone : IsLeaving before close
  pub block : gone.closing.block ≡ p

pub left_cases : (event : Event) (before : List Event) (p : ℕ) → IsLawfulUnlimited (event ∷ before) → is_left (event ∷ before) p ≡ true
    → Leaves event before p ⊎ (is_left before p ≡ true)
unfolding is_left is_left_close
left_cases event before p lawful left =
    let (q, e, at, passes) = any_event-found (λ q e. is_some_and (closing_in e) (λ (c : Closing). eqb c.block p) && is_left_close (event ∷ before) q)
    (event ∷ before) left in
    let both = and_parts (is_some_and (closing_in e) (λ (c : Closing). eqb c.block p)) (is_left_close (event ∷ before) q) passes in
    let (k, says, closes) = option_map_or-true (λ (c : Closing). eqb c.block p) (closing_in e) both.0 in
    elim (event_at-cases event before q e at) [
      | inl newest ↦ absurd (next_unleft event before lawful (subst (λ (n : ℕ). is_left_close (event ∷ before) n ≡ true) newest.0 both.1))
      | inr older ↦
          elim (or_cases (is_number q (left_in event)) (is_left_close before q) both.1) [
            | inl now ↦
                let leaves = is_number-some q (left_in event) now in
                let gone = leaving event before q lawful.1 leaves in
                let one : gone.closed ≡ e = same_Some gone.closed e (sym gone.stands ∙ older) in
                let same : gone.closing ≡ k = same_Some gone.closing k (sym gone.says ∙ (ap closing_in one ∙ says)) in
                inl (record { close = q; leaves = leaves; gone = gone; block = ap (λ (c : Closing). c.block) same ∙ eqb-true k.block p closes })
            | inr was ↦ inr (any_event-from (λ q e. is_some_and (closing_in e) (λ (c : Closing). eqb c.block p) && is_left_close before q) before q e older
                (and_from (is_some_and (closing_in e) (λ (c : Closing). eqb c.block p)) (is_left_close before q) both.0 was))
          ]
    ]
