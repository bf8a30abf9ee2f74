-- The event at a position of a journal, against the list of its events in the order of arrival.
use Rattle.std.proofs.Common.{◌≡◌, ℕ, suc, ◌-◌, ◌<◌, ◌≤◌, ltb, Option, Some, None, List, [], ◌∷◌, length, reverse, get_or, sym, refl, ap, ◌∙◌, arith, inl, inr}
use Rattle.std.proofs.Common.{Bor, ◌≢◌, is_some, IfSome}
use Rattle.std.specs.Option.{option_copied}
use Rattle.std.proofs.lemmas.List.{reverse-reverse, length-reverse}
use Rattle.std.proofs.lemmas.Grind.{reverse_onto}
use Rattle.std.proofs.lemmas.Bool.{ne_eqb, eq-eqb, cases_eq, ltb-true, ltb-false}
use Rattle.std.proofs.Math.Seq.{get_or-append_seam}
use Rattle.std.proofs.Math.ListN.{get_or-append}
use Rattle.ada_events.specs.declared.event.Event.{Event}
use Rattle.ada_events.specs.Search.{event_at}

-- a newer event changes nothing at an older position
pub event_at-other : (event : Event) (before : List Event) (p : ℕ) → p ≢ suc (length before) → event_at (event ∷ before) p ≡ event_at before p
unfolding event_at
event_at-other event before p other = rw (ne_eqb p (suc (length before)) other) refl

event_at-newest : (event : Event) (before : List Event) (p : ℕ) → p ≡ suc (length before) → event_at (event ∷ before) p ≡ Some event
unfolding event_at
event_at-newest event before p same = rw (eq-eqb p (suc (length before)) same) refl

event_at-past : (journal : List Event) (p : ℕ) → length journal < p → event_at journal p ≡ None
unfolding event_at
event_at-past [] p past = refl
event_at-past (event ∷ before) p past =
    event_at-other event before p (omega arith) ∙ event_at-past before p (omega arith)

event_at-zero : (journal : List Event) → event_at journal 0 ≡ None
unfolding event_at
event_at-zero [] = refl
event_at-zero (event ∷ before) = event_at-other event before 0 (omega arith) ∙ event_at-zero before

read_newest : (event : Event) (before : List Event) (d : Event) → get_or (reverse (event ∷ before)) (length before) d ≡ event
read_newest event before d =
    rw (reverse_onto before event [], ← length-reverse before) (get_or-append_seam (reverse before) event [] d)

read_older : (event : Event) (before : List Event) (k : ℕ) (d : Event) → k < length before → get_or (reverse (event ∷ before)) k d ≡ get_or (reverse before) k d
read_older event before k d below =
    rw (reverse_onto before event []) (get_or-append (reverse before) (event ∷ []) d k (omega (arith, length-reverse before)))

event_at-within : (journal : List Event) (p : ℕ) (d : Event) → 0 < p → p ≤ length journal → event_at journal p ≡ Some (get_or (reverse journal) (p - 1) d)
event_at-within [] p d low high = absurd (omega arith)
event_at-within (event ∷ before) p d low high =
    elim (cases_eq p (suc (length before))) [
      | inl same ↦ event_at-newest event before p same ∙ ap Some (sym (rw (let e : p - 1 ≡ length before = omega arith in e) (read_newest event before d)))
      | inr other ↦ event_at-other event before p other ∙ event_at-within before p d low (omega arith)
          ∙ ap Some (sym (read_older event before (p - 1) d (omega arith)))
    ]

-- what a slice gives one place lower
pub event_at-from_slice : (events : List Event) (p : ℕ) (r : Option (Bor Event)) → p ≢ 0 → is_some r ≡ ltb (p - 1) (length events)
    → IfSome r (λ x. x.now ≡ get_or events (p - 1) x.now) → option_copied r ≡ event_at (reverse events) p
event_at-from_slice events p None some same value =
    sym (event_at-past (reverse events) p (omega (arith, length-reverse events, ltb-false (p - 1) (length events) (sym same))))
event_at-from_slice events p (Some x) some same value =
    let within : p - 1 < length events = ltb-true (p - 1) (length events) (sym same) in
    sym (event_at-within (reverse events) p x.now (omega arith) (omega (arith, length-reverse events))
    ∙ ap Some (rw (reverse-reverse events) (sym value)))

pub event_at-none : (events : List Event) (p : ℕ) → p ≡ 0 → None ≡ event_at (reverse events) p
event_at-none events p e = rw e (sym (event_at-zero (reverse events)))
