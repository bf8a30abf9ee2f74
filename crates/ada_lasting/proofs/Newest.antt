-- The newest events of a journal are the last of the list in which they came.
use Rattle.std.proofs.Common.{◌≡◌, ℕ, ◌-◌, ◌≤◌, ◌++◌, List, [], length, take, drop, reverse, sym, ap, ◌∙◌, arith}
use Rattle.std.proofs.lemmas.List.{take-append-drop, take_at, length-drop, length-reverse, reverse-append, take_all}
use Rattle.ada_events.specs.declared.event.Event.{Event}

pub newest_reversed : (events : List Event) (from : ℕ) → from ≤ length events
    → reverse (drop from events) ≡ take (length events - from) (reverse events)
newest_reversed events from within =
    let whole : reverse events ≡ reverse (drop from events) ++ reverse (take from events) =
    ap reverse (sym (take-append-drop from events)) ∙ reverse-append (take from events) (drop from events) in
    sym (ap (take (length events - from)) whole
    ∙ take_at (reverse (drop from events)) (reverse (take from events)) (length events - from)
    (length-reverse (drop from events) ∙ length-drop from events))

-- none, where there are no more
pub none_newest : (events : List Event) (from : ℕ) → from ≡ length events → take (length events - from) events ≡ []
none_newest events from same =
    let none : length events - from ≡ 0 = omega (arith, same) in
    ap (λ n. take n events) none

-- the events by which a journal grew are its newest
pub newest_appended : (before grown steps : List Event) (n : ℕ) → grown ≡ steps ++ before → length steps ≡ n → take n grown ≡ steps
newest_appended before grown steps n is long = rw is (take_at steps before n long)

-- the events from one on, as a journal has them
pub newest_kept : (events : List Event) (from : ℕ) → from ≤ length events → {journal : List Event} → reverse events ≡ journal → length events ≡ length journal
    → reverse (take (length events - from) (drop from events)) ≡ take (length journal - from) journal
newest_kept events from within {journal} whole long =
    let all : take (length events - from) (drop from events) ≡ drop from events =
    take_all (length events - from) (drop from events) (omega (arith, length-drop from events)) in
    ap reverse all ∙ (newest_reversed events from within ∙ (ap (λ n. take (n - from) (reverse events)) long ∙ ap (take (length journal - from)) whole))
