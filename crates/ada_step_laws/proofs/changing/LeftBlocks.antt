-- Blocks that are left.
use Rattle.std.proofs.Common.{◌≡◌, ℕ, suc, true, ◌&&◌, eqb, Some, List, [], ◌∷◌, length, sym, ◌∙◌, subst, ◌⊎◌, inl, inr}
use Rattle.std.proofs.lemmas.Bool.{and_parts, and_from, or_cases, or_left, or_right, eqb-true, true≢false, false≢true}
use Rattle.ada_events.specs.declared.event.Event.{Event}
use Rattle.ada_events.specs.Search.{is_number, event_at, is_some_and}
use Rattle.ada_events.specs.Says.{Closing, closing_in, left_in, released_in}
use Rattle.ada_events.specs.Phases.{is_released}
use Rattle.ada_events.specs.Nests.{is_left_close, is_left}
use Rattle.ada_events.specs.Lawful.{IsLawful}
use Rattle.ada_laws.proofs.searching.Searching.{event_at-cases, any_event-found, any_event-from, is_number-some, is_number-from, option_map_or-true}
use Rattle.ada_laws.proofs.searching.Saying.{left_frees}
use Rattle.ada_step_laws.proofs.changing.Within.{next_unreleased}

-- a close that was followed by leaving is released
close_released : (journal : List Event) (c : ℕ) → is_left_close journal c ≡ true → is_released journal c ≡ true
unfolding is_left_close is_released
close_released [] c left = absurd (false≢true left)
close_released (e ∷ before) c left =
    elim (or_cases (is_number c (left_in e)) (is_left_close before c) left) [
      | inl now ↦ or_left (is_number c (released_in e)) (is_released before c)
          (is_number-from c (released_in e) (left_frees e c (is_number-some c (left_in e) now)))
      | inr was ↦ or_right (is_number c (released_in e)) (is_released before c) (close_released before c was)
    ]

-- the event leaves the block
pub record Leaves (event : Event) (before : List Event) (p : ℕ) : Type 0 where
  pub at : ℕ
  pub closed : Event
  pub closing : Closing
  pub leaves : left_in event ≡ Some at
  pub stands : event_at before at ≡ Some closed
  pub says : closing_in closed ≡ Some closing
  pub block : closing.block ≡ p

pub left_cases : (event : Event) (before : List Event) (p : ℕ) → IsLawful (event ∷ before) → is_left (event ∷ before) p ≡ true → Leaves event before p
    ⊎ (is_left before p ≡ true)
unfolding is_left is_left_close
left_cases event before p lawful left =
    let (q, e, at, passes) = any_event-found (λ q e. is_some_and (closing_in e) (λ (c : Closing). eqb c.block p) && is_left_close (event ∷ before) q)
    (event ∷ before) left in
    let both = and_parts (is_some_and (closing_in e) (λ (c : Closing). eqb c.block p)) (is_left_close (event ∷ before) q) passes in
    let (k, says, closes) = option_map_or-true (λ (c : Closing). eqb c.block p) (closing_in e) both.0 in
    let block = eqb-true k.block p closes in
    elim (event_at-cases event before q e at) [
      | inl newest ↦
          let freed : is_released (event ∷ before) (suc (length before))
          ≡ true = close_released (event ∷ before) (suc (length before)) (subst (λ (n : ℕ). is_left_close (event ∷ before) n ≡ true) newest.0 both.1) in
          absurd (true≢false (sym freed ∙ next_unreleased event before lawful))
      | inr older ↦
          elim (or_cases (is_number q (left_in event)) (is_left_close before q) both.1) [
            | inl now ↦ inl (record {
              at = q;
              closed = e;
              closing = k;
              leaves = is_number-some q (left_in event) now;
              stands = older;
              says = says;
              block = block;
            })
            | inr was ↦ inr (any_event-from (λ q e. is_some_and (closing_in e) (λ (c : Closing). eqb c.block p) && is_left_close before q) before q e older
                (and_from (is_some_and (closing_in e) (λ (c : Closing). eqb c.block p)) (is_left_close before q) both.0 was))
          ]
    ]
