-- What follows where tests pass: of conjunctions, of implications, of all names and of all places.
use Rattle.std.proofs.Common.{◌≡◌, ℕ, ◌<◌, Bool, true, false, not, ◌&&◌, ◌||◌, eqb, ltb, Option, Some, None, List, [], ◌∷◌, length, refl, sym, ap, ◌∙◌}
use Rattle.std.proofs.Common.{is_some, inl, inr}
use Rattle.std.specs.Option.{option_map_or}
use Rattle.std.specs.List.{list_all}
use Rattle.std.proofs.lemmas.Bool.{and_parts, cases_eq, eqb-true, ne_eqb, eq-eqb, ltb-true, lt-ltb, not-true, not-false, false_from_ne_true}
use Rattle.std.proofs.lemmas.Bool.{false≢true, true≢false}
use Rattle.std.proofs.lemmas.Option.{same_Some, none-some, slice_get_within, option_and_then_some}
use Rattle.ada_events.specs.declared.names.TaskNo.{TaskNo}
use Rattle.ada_events.specs.Search.{all_below}
use Rattle.ada_laws.proofs.searching.Searching.{all_below-fails, all_below-holds}
use Rattle.ada_standing.specs.declared.renaming.Place.{Place}
use Rattle.ada_standing.specs.Names.{Names, named, placed}
use Rattle.ada_standing.proofs.Deciding.{all_named, all_placed, both_pass, keeps_order}

pub implied : (b x : Bool) → (not b || x) ≡ true → b ≡ true → x ≡ true
implied true x passes is = passes
implied false x passes is = absurd (false≢true is)

pub otherwise : (b x : Bool) → (b || x) ≡ true → b ≡ false → x ≡ true
otherwise true x passes is = absurd (true≢false is)
otherwise false x passes is = passes

pub some_value : {A : Type 0} (a : Option A) → is_some a ≡ true → (x : A) × (a ≡ Some x)
some_value None passes = absurd (false≢true passes)
some_value (Some x) passes = (x, refl)

-- what a test with a default of true passes
pub option_map_or-at : {A : Type 0} (test : A → Bool) (a : Option A) (x : A) → option_map_or test a true ≡ true → a ≡ Some x → test x ≡ true
option_map_or-at test None x passes is = absurd (none-some x is)
option_map_or-at test (Some y) x passes is = ap test (sym (same_Some y x is)) ∙ passes

pub option_map_or-fails : {A : Type 0} (test : A → Bool) (a : Option A) → option_map_or test a true ≡ false → (x : A) × (a ≡ Some x) × (test x ≡ false)
option_map_or-fails test None fails = absurd (true≢false fails)
option_map_or-fails test (Some x) fails = (x, refl, fails)

pub option_map_or-from : {A : Type 0} (test : A → Bool) (a : Option A) (x : A) → a ≡ Some x → test x ≡ true → option_map_or test a false ≡ true
option_map_or-from test None x is passes = absurd (none-some x is)
option_map_or-from test (Some y) x is passes = ap test (same_Some y x is) ∙ passes

pub all_below-not : (test : ℕ → Bool) (n u : ℕ) → u < n → test u ≡ false → all_below test n ≡ false
all_below-not test n u below fails = false_from_ne_true (all_below test n) (λ all. true≢false (sym (all_below-holds test n u all below) ∙ fails))

pub both_pass-true : {A B : Type 0} (test : A → B → Bool) (a : Option A) (b : Option B) → both_pass test a b ≡ true
    → (x : A) × (y : B) × (a ≡ Some x) × (b ≡ Some y) × (test x y ≡ true)
both_pass-true test (Some x) (Some y) passes = (x, y, refl, refl, passes)
both_pass-true test None (Some y) passes = absurd (false≢true passes)
both_pass-true test None None passes = absurd (false≢true passes)
both_pass-true test (Some x) None passes = absurd (false≢true passes)

pub both_pass-from : {A B : Type 0} (test : A → B → Bool) (a : Option A) (b : Option B) (x : A) (y : B) → a ≡ Some x → b ≡ Some y → test x y ≡ true
    → both_pass test a b ≡ true
both_pass-from test a b x y is has passes = rw (is, has) passes

-- tasks that stand for others

named_within : (tasks : List (Option TaskNo)) (u v : ℕ) → named tasks u ≡ Some v → u < length tasks
named_within tasks u v is = option_and_then_some _ _ v is (λ found there makes. slice_get_within tasks u found there)

pub all_named-at : (names : Names) (test : ℕ → ℕ → Bool) → all_named names test ≡ true → (u v : ℕ) → named names.tasks u ≡ Some v → test u v ≡ true
all_named-at names test passes u v is =
    let below : u < length names.tasks = named_within names.tasks u v is in
    option_map_or-at (test u) (named names.tasks u) v
    (all_below-holds (λ t. option_map_or (test t) (named names.tasks t) true) (length names.tasks) u passes below) is

pub all_named-fails : (names : Names) (test : ℕ → ℕ → Bool) → all_named names test ≡ false
    → (u : ℕ) × (v : ℕ) × (named names.tasks u ≡ Some v) × (test u v ≡ false)
all_named-fails names test fails =
    let (u, below, found) = all_below-fails (λ t. option_map_or (test t) (named names.tasks t) true) (length names.tasks) fails in
    let (v, is, fails_at) = option_map_or-fails (test u) (named names.tasks u) found in
    (u, v, is, fails_at)

-- some task has this one to stand for it
pub named_by_some : (names : Names) (v : ℕ) → not (all_named names (λ u w. not (eqb w v))) ≡ true → (u : ℕ) × (named names.tasks u ≡ Some v)
named_by_some names v passes =
    let (u, w, is, other) = all_named-fails names (λ u w. not (eqb w v)) (not-true _ passes) in
    (u, is ∙ ap Some (eqb-true w v (not-false (eqb w v) other)))

-- positions that stand for others

pub all_placed-at : (places : List Place) (test : ℕ → ℕ → Bool) (p a : ℕ) → list_all (λ (place : Place). test place.old place.new) places ≡ true
    → placed places p ≡ Some a → test p a ≡ true
unfolding placed
all_placed-at [] test p a passes is = absurd (none-some a is)
all_placed-at (place ∷ rest) test p a passes is =
    let both = and_parts (test place.old place.new) (list_all (λ (one : Place). test one.old one.new) rest) passes in
    elim (cases_eq place.old p) [
      | inl same ↦
          let new : place.new ≡ a = same_Some place.new a (rw (eq-eqb place.old p same) at is) in
          rw (← same, ← new) both.0
      | inr other ↦ all_placed-at rest test p a both.1 (rw (ne_eqb place.old p other) at is)
    ]

-- in the order of the old positions
kept : (less order passes : Bool) → (elim (less && not order) [ true ↦ not passes | false ↦ true ]) ≡ true → less ≡ true → passes ≡ true → order ≡ true
kept less true passes keeps is test = refl
kept false false passes keeps is test = absurd (false≢true is)
kept true false true keeps is test = absurd (false≢true keeps)
kept true false false keeps is test = absurd (false≢true test)

pub keeps_order-at : (names : Names) (test : ℕ → ℕ → Bool) (p q a b : ℕ) → keeps_order names test ≡ true → test p q ≡ true
    → placed names.places p ≡ Some a → placed names.places q ≡ Some b → p < q → a < b
keeps_order-at names test p q a b keeps passes first second less =
    let inner = all_placed-at names.places
    (λ p a. all_placed names (λ q b. elim (ltb p q && not (ltb a b)) [ true ↦ not (test p q) | false ↦ true ])) p a keeps first in
    let at = all_placed-at names.places (λ q b. elim (ltb p q && not (ltb a b)) [ true ↦ not (test p q) | false ↦ true ]) q b inner second in
    ltb-true a b (kept (ltb p q) (ltb a b) (test p q) at (lt-ltb p q less) passes)
