-- Searches that find alike, where an order of keys is kept.
use Rattle.std.proofs.Common.{◌≡◌, ℕ, zero, suc, ◌<◌, ◌≤◌, cond, ltb, Option, Some, None, List, [], ◌∷◌, length, refl, sym, ap, ◌∙◌, arith}
use Rattle.std.proofs.Common.{◌≢◌, inl, inr}
use Rattle.std.specs.Option.{option_or, option_map, option_and_then}
use Rattle.std.proofs.lemmas.Bool.{cases_eq, cases_lt, lt-ltb, le-ltb, ltb-true}
use Rattle.std.proofs.lemmas.Option.{same_Some, none-some}
use Rattle.ada_events.specs.declared.event.Event.{Event}
use Rattle.ada_events.specs.Search.{first_given, first_below, event_at}
use Rattle.ada_laws.proofs.searching.Searching.{event_at-within, event_at-newest, option_and_then-some, if_some}
use Rattle.ada_events.proofs.Positions.{event_at-other}

-- a search gives what the least key gives that gives something
pub data IsFirst {A : Type 0} (at : ℕ → Option A) (o : Option A) : Type 0 where
  nothing : o ≡ None → ((k : ℕ) → at k ≡ None) → IsFirst at o
  found : (k : ℕ) (x : A) → o ≡ Some x → at k ≡ Some x → ((j : ℕ) → j < k → at j ≡ None) → IsFirst at o

-- what the event at a position gives
abbrev pub given_at : {A : Type 0} → (ℕ → Event → Option A) → List Event → ℕ → Option A
given_at give journal p = option_and_then (give p) (event_at journal p)

-- what a number below a bound gives
abbrev pub given_below : {A : Type 0} → (ℕ → Option A) → ℕ → ℕ → Option A
given_below give n u = cond (ltb u n) (give u) None

given_newest : {A : Type 0} (give : ℕ → Event → Option A) (event : Event) (before : List Event) (p : ℕ) → p ≡ suc (length before)
    → given_at give (event ∷ before) p ≡ give (suc (length before)) event
given_newest give event before p same = rw (same, event_at-newest event before) refl

given_older : {A : Type 0} (give : ℕ → Event → Option A) (event : Event) (before : List Event) (p : ℕ) → p ≢ suc (length before)
    → given_at give (event ∷ before) p ≡ given_at give before p
given_older give event before p other = ap (option_and_then (give p)) (event_at-other event before p other)

given_within : {A : Type 0} (give : ℕ → Event → Option A) (journal : List Event) (p : ℕ) (x : A) → given_at give journal p ≡ Some x → p ≤ length journal
given_within give journal p x gives =
    let (e, at, same) = option_and_then-some (give p) (event_at journal p) x gives in
    event_at-within journal p e at

next_first : {A : Type 0} (give : ℕ → Event → Option A) (event : Event) (before : List Event) (o n : Option A) → give (suc (length before)) event ≡ n
    → IsFirst (given_at give before) o → IsFirst (given_at give (event ∷ before)) (option_or o n)
next_first give event before o n newest (found k x is gives less) =
    let within : k ≤ length before = given_within give before k x gives in
    found k x (rw is refl) (given_older give event before k (omega arith) ∙ gives)
    (λ j below. given_older give event before j (omega arith) ∙ less j below)
next_first give event before o None newest (nothing is none) =
    nothing (rw is refl) (λ k.
    elim (cases_eq k (suc (length before))) [
      | inl same ↦ given_newest give event before k same ∙ newest
      | inr other ↦ given_older give event before k other ∙ none k
    ])
next_first give event before o (Some x) newest (nothing is none) =
    found (suc (length before)) x (rw is refl) (given_newest give event before (suc (length before)) refl ∙ newest)
    (λ j below. given_older give event before j (omega arith) ∙ none j)

pub first_given-is : {A : Type 0} (give : ℕ → Event → Option A) (journal : List Event) → IsFirst (given_at give journal) (first_given give journal)
unfolding first_given event_at
first_given-is give [] = nothing refl (λ k. refl)
first_given-is give (event ∷ before) =
    next_first give event before (first_given give before) (give (suc (length before)) event) refl (first_given-is give before)

below_more : {A : Type 0} (give : ℕ → Option A) (n u : ℕ) → u ≢ n → given_below give (suc n) u ≡ given_below give n u
below_more give n u other = elim (cases_lt u n) [
  | inl less ↦ rw (lt-ltb u (suc n) (omega arith), lt-ltb u n less) refl
  | inr more ↦ rw (le-ltb u (suc n) (omega arith), le-ltb u n more) refl
]

below_newest : {A : Type 0} (give : ℕ → Option A) (n u : ℕ) → u ≡ n → given_below give (suc n) u ≡ give n
below_newest give n u same = rw (same, lt-ltb n (suc n) (omega arith)) refl

pub below_bound : {A : Type 0} (give : ℕ → Option A) (n u : ℕ) (x : A) → given_below give n u ≡ Some x → (u < n) × (give u ≡ Some x)
below_bound give n u x gives =
    let both = if_some (ltb u n) (give u) x gives in
    (ltb-true u n both.0, both.1)

pub below_from : {A : Type 0} (give : ℕ → Option A) (n u : ℕ) (x : A) → u < n → give u ≡ Some x → given_below give n u ≡ Some x
below_from give n u x below gives = rw (lt-ltb u n below) gives

next_below : {A : Type 0} (give : ℕ → Option A) (n : ℕ) (o last : Option A) → give n ≡ last → IsFirst (given_below give n) o
    → IsFirst (given_below give (suc n)) (option_or o last)
next_below give n o last newest (found k x is gives less) =
    let below : k < n = (below_bound give n k x gives).0 in
    found k x (rw is refl) (below_more give n k (omega arith) ∙ gives) (λ j under. below_more give n j (omega arith) ∙ less j under)
next_below give n o None newest (nothing is none) =
    nothing (rw is refl) (λ k.
    elim (cases_eq k n) [
      | inl same ↦ below_newest give n k same ∙ newest
      | inr other ↦ below_more give n k other ∙ none k
    ])
next_below give n o (Some x) newest (nothing is none) =
    found n x (rw is refl) (below_newest give n n refl ∙ newest) (λ j under. below_more give n j (omega arith) ∙ none j)

pub first_below-is : {A : Type 0} (give : ℕ → Option A) (n : ℕ) → IsFirst (given_below give n) (first_below give n)
unfolding first_below
first_below-is give zero = nothing refl (λ k. rw (le-ltb k 0 (omega arith)) refl)
first_below-is give (suc n) = next_below give n (first_below give n) (give n) refl (first_below-is give n)

-- the keys that give something in one search and in another belong together, in their order, and what they give too
pub record IsMatch {A B : Type 0} (to : ℕ → Option ℕ) (same : A → Option B) (at : ℕ → Option A) (there : ℕ → Option B) : Type 0 where
  pub forth : (k : ℕ) (x : A) → at k ≡ Some x → (l : ℕ) × (y : B) × (to k ≡ Some l) × (there l ≡ Some y) × (same x ≡ Some y)
  pub back : (l : ℕ) (y : B) → there l ≡ Some y → (k : ℕ) × (x : A) × (to k ≡ Some l) × (at k ≡ Some x)
  pub rises : (j k a b : ℕ) (x y : A) → at j ≡ Some x → at k ≡ Some y → to j ≡ Some a → to k ≡ Some b → j < k → a < b

not_before : {A : Type 0} (at : ℕ → Option A) (a b : ℕ) (x : A) → at a ≡ Some x → ((j : ℕ) → j < b → at j ≡ None) → b ≤ a
not_before at a b x gives none = elim (cases_lt a b) [
  | inl less ↦ absurd (none-some x (sym (none a less) ∙ gives))
  | inr more ↦ more
]

same_image : (to : ℕ → Option ℕ) (k i l m : ℕ) → to k ≡ Some m → to i ≡ Some l → k ≤ i → l ≤ m → (k < i → m < l) → m ≡ l
same_image to k i l m names named below above rises = elim (cases_eq k i) [
  | inl same ↦ same_Some m l (sym names ∙ (ap to same ∙ named))
  | inr other ↦
      let less : k < i = omega arith in
      let more : m < l = rises less in
      omega arith
]

both_found : {A B : Type 0} (to : ℕ → Option ℕ) (same : A → Option B) (at : ℕ → Option A) (there : ℕ → Option B) (o : Option A) (n : Option B) (k l : ℕ) (x : A)
    (y : B) → IsMatch to same at there → o ≡ Some x → at k ≡ Some x → ((j : ℕ) → j < k → at j ≡ None) → n ≡ Some y → there l ≡ Some y
    → ((j : ℕ) → j < l → there j ≡ None) → option_map same o ≡ option_map Some n
both_found to same at there o n k l x y match is gives least has at_l first =
    let (m, z, names, gives_z, is_same) = match.forth k x gives in
    let (i, w, named, gives_w) = match.back l y at_l in
    let above : l ≤ m = not_before there m l z gives_z first in
    let below : k ≤ i = not_before at i k w gives_w least in
    let one : m ≡ l = same_image to k i l m names named below above (λ less. match.rises k i m l x w gives gives_w names named less) in
    let value : z ≡ y = same_Some z y (sym gives_z ∙ (ap there one ∙ at_l)) in
    rw (is, has) (ap Some (is_same ∙ ap Some value))

pub search_alike : {A B : Type 0} (to : ℕ → Option ℕ) (same : A → Option B) (at : ℕ → Option A) (there : ℕ → Option B) (o : Option A) (n : Option B)
    → IsMatch to same at there → IsFirst at o → IsFirst there n → option_map same o ≡ option_map Some n
search_alike to same at there o n match (nothing is none) (nothing has none_there) = rw (is, has) refl
search_alike to same at there o n match (nothing is none) (found l y has at_l first) =
    let (k, x, named, gives) = match.back l y at_l in
    absurd (none-some x (sym (none k) ∙ gives))
search_alike to same at there o n match (found k x is gives least) (nothing has none_there) =
    let (l, y, named, gives_y, is_same) = match.forth k x gives in
    absurd (none-some y (sym (none_there l) ∙ gives_y))
search_alike to same at there o n match (found k x is gives least) (found l y has at_l first) =
    both_found to same at there o n k l x y match is gives least has at_l first
