-- Blocks that are left.
use Rattle.std.proofs.Common.{◌≡◌, ℕ, true, false, ◌&&◌, eqb, Some, None, List, ◌∷◌, refl, sym, ◌∙◌}
use Rattle.std.proofs.lemmas.Bool.{and_parts, and_from, or_right, false_from_ne_true, true≢false}
use Rattle.std.proofs.lemmas.Option.{none-some}
use Rattle.ada_events.specs.declared.event.Event.{Event}
use Rattle.ada_events.specs.declared.event.Event.TheVariants as event
use Rattle.ada_events.specs.declared.request.Request.{Request}
use Rattle.ada_events.specs.declared.request.Request.TheVariants as request
use Rattle.ada_events.specs.Search.{is_number, is_some_and}
use Rattle.ada_events.specs.Says.{Closing, closing_in, left_in, creation_in}
use Rattle.ada_events.specs.Asks.{asked_event}
use Rattle.ada_events.specs.Nests.{is_left_close, is_left}
use Rattle.ada_laws.proofs.searching.Searching.{event_at-older, any_event-found, any_event-from}

-- a block that is left stays left
pub left_more : (event : Event) (before : List Event) (p : ℕ) → is_left before p ≡ true → is_left (event ∷ before) p ≡ true
unfolding is_left is_left_close
left_more event before p left =
    let (q, e, at, passes) = any_event-found (λ q e. is_some_and (closing_in e) (λ (c : Closing). eqb c.block p) && is_left_close before q) before left in
    let both = and_parts (is_some_and (closing_in e) (λ (c : Closing). eqb c.block p)) (is_left_close before q) passes in
    any_event-from (λ q e. is_some_and (closing_in e) (λ (c : Closing). eqb c.block p) && is_left_close (event ∷ before) q) (event ∷ before) q e
    (event_at-older event before q e at)
    (and_from (is_some_and (closing_in e) (λ (c : Closing). eqb c.block p)) (is_left_close (event ∷ before) q) both.0
    (or_right (is_number q (left_in event)) (is_left_close before q) both.1))

pub unleft_before : (event : Event) (before : List Event) (p : ℕ) → is_left (event ∷ before) p ≡ false → is_left before p ≡ false
unleft_before event before p unleft =
    false_from_ne_true (is_left before p) (λ left. true≢false (sym (left_more event before p left) ∙ unleft))

-- no request is answered by leaving a block
pub left_in-asked : (journal : List Event) (r : Request) → left_in (asked_event journal r) ≡ None
unfolding left_in asked_event
left_in-asked journal (request.Open by) = refl
left_in-asked journal _ = refl

-- leaving a block makes no task
pub leaving_makes_none : (e : Event) (c : ℕ) → left_in e ≡ Some c → creation_in e ≡ None
unfolding left_in creation_in
leaving_makes_none (event.Left close) c says = refl
leaving_makes_none _ c says = absurd (none-some c says)
