-- What a search of a journal finds, and what is found where something passes.
use Rattle.std.proofs.Common.{◌≡◌, ℕ, zero, suc, ◌<◌, ◌≤◌, Bool, true, false, cond, not, ◌&&◌, Option, Some, None, List, [], ◌∷◌, length, sym, refl, ap, ◌∙◌}
use Rattle.std.proofs.Common.{arith, ◌⊎◌, inl, inr}
use Rattle.std.specs.Option.{option_or, option_map, option_map_or, option_and_then}
use Rattle.std.specs.Bool.{then_some}
use Rattle.std.proofs.lemmas.Bool.{ne_eqb, eq-eqb, eqb-true, cases_eq, or_cases, and_cases, and_parts, or_left, or_right, true≢false, false≢true}
use Rattle.std.proofs.lemmas.Option.{same_Some, none-some}
use Rattle.std.proofs.Common.{eqb}
use Rattle.std.proofs.lemmas.Bool.{false_from_ne_true}
use Rattle.ada_events.specs.declared.event.Event.{Event}
use Rattle.ada_events.specs.Search.{is_number, any_event, first_given, first_below, all_below, event_at}
use Rattle.ada_events.proofs.Positions.{event_at-other}

pub three_parts : (a b c : Bool) → (a && not b && not c) ≡ true → (a ≡ true) × (b ≡ false) × (c ≡ false)
three_parts true false false all = (refl, refl, refl)
three_parts true false true all = absurd (false≢true all)
three_parts true true c all = absurd (false≢true all)
three_parts false b c all = absurd (false≢true all)

pub eqb_swap : (a b : ℕ) → eqb a b ≡ eqb b a
eqb_swap a b = elim (cases_eq a b) [
  | inl same ↦ rw (eq-eqb a b same, eq-eqb b a (sym same)) refl
  | inr other ↦ rw (ne_eqb a b other, ne_eqb b a (λ same. other (sym same))) refl
]

-- the first of two that there is
pub option_or-some : {A : Type 0} (a b : Option A) (x : A) → option_or a b ≡ Some x → (a ≡ Some x) ⊎ (b ≡ Some x)
option_or-some None b x same = inr same
option_or-some (Some y) b x same = inl same

pub option_or-none : {A : Type 0} (a b : Option A) → option_or a b ≡ None → (a ≡ None) × (b ≡ None)
option_or-none None b none = (refl, none)
option_or-none (Some x) b none = absurd (none-some x (sym none))

pub then_some-some : {A : Type 0} (b : Bool) (y x : A) → then_some b y ≡ Some x → (b ≡ true) × (y ≡ x)
then_some-some true y x same = (refl, same_Some y x same)
then_some-some false y x same = absurd (none-some x same)

pub if_some : {A : Type 0} (b : Bool) (a : Option A) (x : A) → cond b a None ≡ Some x → (b ≡ true) × (a ≡ Some x)
if_some true a x same = (refl, same)
if_some false a x same = absurd (none-some x same)

pub option_map-some : {A B : Type 0} (f : A → B) (a : Option A) (y : B) → option_map f a ≡ Some y → (x : A) × (a ≡ Some x) × (f x ≡ y)
option_map-some f None y same = absurd (none-some y same)
option_map-some f (Some x) y same = (x, refl, same_Some (f x) y same)

-- what a test with a default of false passes
pub option_map_or-true : {A : Type 0} (test : A → Bool) (a : Option A) → option_map_or test a false ≡ true → (x : A) × (a ≡ Some x) × (test x ≡ true)
option_map_or-true test None passes = absurd (false≢true passes)
option_map_or-true test (Some x) passes = (x, refl, passes)

pub option_map_or-false : {A : Type 0} (test : A → Bool) (a : Option A) (x : A) → option_map_or test a false ≡ false → a ≡ Some x → test x ≡ false
option_map_or-false test None x fails same = absurd (none-some x same)
option_map_or-false test (Some y) x fails same = ap test (sym (same_Some y x same)) ∙ fails

pub option_and_then-some : {A B : Type 0} (f : A → Option B) (a : Option A) (y : B) → option_and_then f a ≡ Some y → (x : A) × (a ≡ Some x) × (f x ≡ Some y)
option_and_then-some f None y same = absurd (none-some y same)
option_and_then-some f (Some x) y same = (x, refl, same)

pub is_number-some : (n : ℕ) (o : Option ℕ) → is_number n o ≡ true → o ≡ Some n
is_number-some n None passes = absurd (false≢true passes)
is_number-some n (Some m) passes = ap Some (sym (eqb-true n m passes))

pub is_number-from : (n : ℕ) (o : Option ℕ) → o ≡ Some n → is_number n o ≡ true
is_number-from n None same = absurd (none-some n same)
is_number-from n (Some m) same = eq-eqb n m (sym (same_Some m n same))

pub is_number-not : (n : ℕ) (o : Option ℕ) → (o ≡ Some n → ⊥) → is_number n o ≡ false
is_number-not n o never = false_from_ne_true (is_number n o) (λ is. never (is_number-some n o is))

-- what stands at a position stands within the journal
pub event_at-within : (journal : List Event) (p : ℕ) (e : Event) → event_at journal p ≡ Some e → p ≤ length journal
unfolding event_at
event_at-within [] p e at = absurd (none-some e at)
event_at-within (event ∷ before) p e at =
    elim (cases_eq p (suc (length before))) [
      | inl same ↦ omega arith
      | inr other ↦
          let there : p ≤ length before = event_at-within before p e (rw (ne_eqb p (suc (length before)) other) at at) in
          omega arith
    ]

pub event_at-newest : (event : Event) (before : List Event) → event_at (event ∷ before) (suc (length before)) ≡ Some event
unfolding event_at
event_at-newest event before = rw (eq-eqb (suc (length before)) (suc (length before)) refl) refl

pub event_at-older : (event : Event) (before : List Event) (p : ℕ) (e : Event) → event_at before p ≡ Some e → event_at (event ∷ before) p ≡ Some e
event_at-older event before p e at =
    let within : p ≤ length before = event_at-within before p e at in
    event_at-other event before p (omega arith) ∙ at

-- what stands at a position of a longer journal is the newest event, or stood there before
pub event_at-cases : (event : Event) (before : List Event) (p : ℕ) (e : Event) → event_at (event ∷ before) p ≡ Some e
    → ((p ≡ suc (length before)) × (event ≡ e)) ⊎ (event_at before p ≡ Some e)
event_at-cases event before p e at =
    elim (cases_eq p (suc (length before))) [
      | inl same ↦ inl (same, same_Some event e (sym (event_at-newest event before) ∙ (ap (event_at (event ∷ before)) (sym same) ∙ at)))
      | inr other ↦ inr (sym (event_at-other event before p other) ∙ at)
    ]

pub any_event-found : (test : ℕ → Event → Bool) (journal : List Event) → any_event test journal ≡ true → (p : ℕ) × (e : Event) × (event_at journal p ≡ Some e)
    × (test p e ≡ true)
unfolding any_event
any_event-found test [] passes = absurd (false≢true passes)
any_event-found test (event ∷ before) passes =
    elim (or_cases (test (suc (length before)) event) (any_event test before) passes) [
      | inl here ↦ (suc (length before), event, event_at-newest event before, here)
      | inr there ↦
          let (p, e, at, found) = any_event-found test before there in
          (p, e, event_at-older event before p e at, found)
    ]

pub any_event-from : (test : ℕ → Event → Bool) (journal : List Event) (p : ℕ) (e : Event) → event_at journal p ≡ Some e → test p e ≡ true
    → any_event test journal ≡ true
unfolding any_event event_at
any_event-from test [] p e at passes = absurd (none-some e at)
any_event-from test (event ∷ before) p e at passes =
    elim (event_at-cases event before p e at) [
      | inl newest ↦ or_left (test (suc (length before)) event) (any_event test before) (rw (← newest.0, newest.1) passes)
      | inr older ↦ or_right (test (suc (length before)) event) (any_event test before) (any_event-from test before p e older passes)
    ]

pub first_given-found : {A : Type 0} (give : ℕ → Event → Option A) (journal : List Event) (x : A) → first_given give journal ≡ Some x → (p : ℕ) × (e : Event)
    × (event_at journal p ≡ Some e) × (give p e ≡ Some x)
unfolding first_given
first_given-found give [] x given = absurd (none-some x given)
first_given-found give (event ∷ before) x given =
    elim (option_or-some (first_given give before) (give (suc (length before)) event) x given) [
      | inl there ↦
          let (p, e, at, found) = first_given-found give before x there in
          (p, e, event_at-older event before p e at, found)
      | inr here ↦ (suc (length before), event, event_at-newest event before, here)
    ]

pub first_below-found : {A : Type 0} (give : ℕ → Option A) (n : ℕ) (x : A) → first_below give n ≡ Some x → (u : ℕ) × (u < n) × (give u ≡ Some x)
unfolding first_below
first_below-found give zero x given = absurd (none-some x given)
first_below-found give (suc n) x given =
    elim (option_or-some (first_below give n) (give n) x given) [
      | inl there ↦
          let (u, below, found) = first_below-found give n x there in
          (u, omega arith, found)
      | inr here ↦ (n, omega arith, here)
    ]

pub all_below-fails : (test : ℕ → Bool) (n : ℕ) → all_below test n ≡ false → (u : ℕ) × (u < n) × (test u ≡ false)
unfolding all_below
all_below-fails test zero fails = absurd (true≢false fails)
all_below-fails test (suc n) fails =
    elim (and_cases (all_below test n) (test n) fails) [
      | inl there ↦
          let (u, below, found) = all_below-fails test n there in
          (u, omega arith, found)
      | inr here ↦ (n, omega arith, here)
    ]

pub all_below-holds : (test : ℕ → Bool) (n u : ℕ) → all_below test n ≡ true → u < n → test u ≡ true
unfolding all_below
all_below-holds test zero u all below = absurd (omega arith)
all_below-holds test (suc n) u all below =
    let both = and_parts (all_below test n) (test n) all in
    elim (cases_eq u n) [
      | inl same ↦ rw same both.1
      | inr other ↦ all_below-holds test n u both.0 (omega arith)
    ]
