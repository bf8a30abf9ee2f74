-- What is gathered from a journal, and what a map that leaves some out keeps.
use Rattle.std.proofs.Common.{◌≡◌, ℕ, zero, suc, ◌<◌, ◌≤◌, Option, Some, None, List, [], ◌∷◌, ◌++◌, length, get_or, refl, ap, arith, subst, inl, inr}
use Rattle.std.specs.Option.{option_to_list}
use Rattle.std.specs.List.{AllPairs, All, Contains}
use Rattle.std.proofs.lemmas.List.Elements.{Contains-append_left, Contains-append_right, Contains-append_cases, All-append, All-cons, All-nil, All-weaker}
use Rattle.std.proofs.lemmas.List.Quantifiers.{all_pairs_push}
use Rattle.std.proofs.lemmas.List.{append-nil}
use Rattle.std.proofs.lemmas.Option.{same_Some, none-some}
use Rattle.ada_events.specs.declared.event.Event.{Event}
use Rattle.ada_events.specs.Search.{first_given, gathered, event_at}
use Rattle.ada_laws.proofs.searching.Searching.{option_or-none, event_at-cases, event_at-newest, event_at-older}

pub Contains-first : {A : Type 0} (x : A) (xs : List A) → Contains (x ∷ xs) x
Contains-first x xs = (0, omega arith, refl)

pub Contains-later : {A : Type 0} (x y : A) (xs : List A) → Contains xs y → Contains (x ∷ xs) y
Contains-later x y xs (k, below, same) = (suc k, omega arith, same)

pub Contains-one : {A : Type 0} (o : Option A) (x : A) → Contains (option_to_list o) x → o ≡ Some x
Contains-one None x (k, below, same) = absurd (omega arith)
Contains-one (Some y) x (zero, below, same) = ap Some same
Contains-one (Some y) x (suc k, below, same) = absurd (omega arith)

pub Contains-from_one : {A : Type 0} (o : Option A) (x : A) → o ≡ Some x → Contains (option_to_list o) x
Contains-from_one None x same = absurd (none-some x same)
Contains-from_one (Some y) x same = (0, omega arith, same_Some y x same)

-- what is gathered is what some event gives
pub gathered-found : {A : Type 0} (give : ℕ → Event → Option A) (journal : List Event) (x : A) → Contains (gathered give journal) x → (p : ℕ) × (e : Event)
    × (event_at journal p ≡ Some e) × (give p e ≡ Some x)
unfolding gathered
gathered-found give [] x contains = absurd (omega (arith, contains.1))
gathered-found give (event ∷ before) x contains =
    elim (Contains-append_cases (gathered give before) (option_to_list (give (suc (length before)) event)) x contains) [
      | inl there ↦
          let (p, e, at, gives) = gathered-found give before x there in
          (p, e, event_at-older event before p e at, gives)
      | inr here ↦ (suc (length before), event, event_at-newest event before, Contains-one (give (suc (length before)) event) x here)
    ]

pub gathered-from : {A : Type 0} (give : ℕ → Event → Option A) (journal : List Event) (p : ℕ) (e : Event) (x : A) → event_at journal p ≡ Some e
    → give p e ≡ Some x → Contains (gathered give journal) x
unfolding gathered event_at
gathered-from give [] p e x at gives = absurd (none-some e at)
gathered-from give (event ∷ before) p e x at gives =
    elim (event_at-cases event before p e at) [
      | inl newest ↦
          Contains-append_right (gathered give before) (option_to_list (give (suc (length before)) event)) x
          (Contains-from_one (give (suc (length before)) event) x (rw (← newest.0, newest.1) gives))
      | inr older ↦
          Contains-append_left (gathered give before) (option_to_list (give (suc (length before)) event)) x (gathered-from give before p e x older gives)
    ]

within_one : (o : Option ℕ) (n : ℕ) → ((q : ℕ) → o ≡ Some q → n ≡ q) → All (λ q. q ≤ n) (option_to_list o)
within_one None n gives_itself = All-nil (λ q. q ≤ n)
within_one (Some q) n gives_itself =
    let same : n ≡ q = gives_itself q refl in
    All-cons (λ q. q ≤ n) q [] (omega arith) (All-nil (λ q. q ≤ n))

rises_one : (xs : List ℕ) (o : Option ℕ) (n : ℕ) → All (λ q. q < n) xs → AllPairs (λ p q. p < q) xs → ((q : ℕ) → o ≡ Some q → n ≡ q)
    → AllPairs (λ p q. p < q) (xs ++ option_to_list o)
rises_one xs None n below rises gives_itself = rw (append-nil xs) rises
rises_one xs (Some q) n below rises gives_itself =
    all_pairs_push (λ p q. p < q) xs q rises (λ k d within. subst (λ (m : ℕ). get_or xs k d < m) (gives_itself q refl) (below k d within))

-- positions that are gathered are within the journal, and rise
pub gathered-within : (give : ℕ → Event → Option ℕ) (journal : List Event) → ((p q : ℕ) (e : Event) → give p e ≡ Some q → p ≡ q)
    → All (λ q. q ≤ length journal) (gathered give journal)
unfolding gathered
gathered-within give [] gives_itself = All-nil (λ q. q ≤ 0)
gathered-within give (event ∷ before) gives_itself =
    All-append (λ q. q ≤ suc (length before)) (gathered give before) (option_to_list (give (suc (length before)) event))
    (All-weaker (λ q. q ≤ length before) (λ q. q ≤ suc (length before)) (λ q below. omega arith) (gathered give before)
    (gathered-within give before gives_itself))
    (within_one (give (suc (length before)) event) (suc (length before)) (λ q gives. gives_itself (suc (length before)) q event gives))

pub gathered-rises : (give : ℕ → Event → Option ℕ) (journal : List Event) → ((p q : ℕ) (e : Event) → give p e ≡ Some q → p ≡ q)
    → AllPairs (λ p q. p < q) (gathered give journal)
unfolding gathered
gathered-rises give [] gives_itself = λ i j d less below. absurd (omega arith)
gathered-rises give (event ∷ before) gives_itself =
    rises_one (gathered give before) (give (suc (length before)) event) (suc (length before))
    (All-weaker (λ q. q ≤ length before) (λ q. q < suc (length before)) (λ q below. omega arith) (gathered give before)
    (gathered-within give before gives_itself))
    (gathered-rises give before gives_itself) (λ q gives. gives_itself (suc (length before)) q event gives)

-- where nothing is given first, nothing is given
pub first_given-none : {A : Type 0} (give : ℕ → Event → Option A) (journal : List Event) (p : ℕ) (e : Event) → first_given give journal ≡ None
    → event_at journal p ≡ Some e → give p e ≡ None
unfolding first_given event_at
first_given-none give [] p e none at = absurd (none-some e at)
first_given-none give (event ∷ before) p e none at =
    let both = option_or-none (first_given give before) (give (suc (length before)) event) none in
    elim (event_at-cases event before p e at) [
      | inl newest ↦ rw (newest.0, ← newest.1) both.1
      | inr older ↦ first_given-none give before p e both.0 older
    ]
