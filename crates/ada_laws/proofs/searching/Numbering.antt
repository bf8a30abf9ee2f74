-- The numbers of the items of a list that pass.
use Rattle.std.proofs.Common.{◌≡◌, ℕ, zero, suc, Bool, true, false, cond, Some, List, [], ◌∷◌, ◌+◌, refl, sym, ap, ◌∙◌, arith}
use Rattle.std.specs.Prelude.{slice_get}
use Rattle.std.proofs.lemmas.Option.{same_Some, none-some}
use Rattle.ada_events.specs.Waits.{numbers_from}

-- where no item has a number, none passes
none_here : (b : Bool) (n : ℕ) (rest : List ℕ) → cond b (n ∷ rest) rest ≡ [] → (b ≡ false) × (rest ≡ [])
none_here true n rest none = absurd (cc)
none_here false n rest none = (refl, none)

pub numbers_from-none : {A : Type 0} (test : A → Bool) (n : ℕ) (xs : List A) (k : ℕ) (x : A) → numbers_from test n xs ≡ [] → slice_get xs k ≡ Some x
    → test x ≡ false
unfolding numbers_from
numbers_from-none test n [] k x none at = absurd (none-some x at)
numbers_from-none test n (y ∷ ys) zero x none at =
    ap test (same_Some x y (sym at)) ∙ (none_here (test y) n (numbers_from test (suc n) ys) none).0
numbers_from-none test n (y ∷ ys) (suc k) x none at =
    numbers_from-none test (suc n) ys k x (none_here (test y) n (numbers_from test (suc n) ys) none).1 at

-- the number, counted from n, of an item that passes
pub record IsNumbered {A : Type 0} (test : A → Bool) (n : ℕ) (xs : List A) (number : ℕ) : Type 0 where
  pub place : ℕ
  pub item : A
  pub is : number ≡ n + place
  pub stands : slice_get xs place ≡ Some item
  pub passes : test item ≡ true

later : {A : Type 0} (test : A → Bool) (n : ℕ) (x : A) (xs : List A) (number : ℕ) → IsNumbered test (suc n) xs number → IsNumbered test n (x ∷ xs) number
later test n x xs number found = record {
  place = suc found.place;
  item = found.item;
  is = found.is ∙ (let e : suc n + found.place ≡ n + suc found.place = omega arith in e);
  stands = found.stands;
  passes = found.passes;
}

number_one : {A : Type 0} (test : A → Bool) (n : ℕ) (x : A) (xs : List A) (b : Bool) (rest : List ℕ) (k number : ℕ) → test x ≡ b
    → slice_get (cond b (n ∷ rest) rest) k ≡ Some number → ((j : ℕ) → slice_get rest j ≡ Some number → IsNumbered test (suc n) xs number)
    → IsNumbered test n (x ∷ xs) number
number_one test n x xs true rest zero number passes found there = record {
  place = 0;
  item = x;
  is = same_Some number n (sym found) ∙ (let e : n ≡ n + 0 = omega arith in e);
  stands = refl;
  passes = passes;
}
number_one test n x xs true rest (suc k) number passes found there = later test n x xs number (there k found)
number_one test n x xs false rest k number passes found there = later test n x xs number (there k found)

pub numbers_from-found : {A : Type 0} (test : A → Bool) (n : ℕ) (xs : List A) (k number : ℕ) → slice_get (numbers_from test n xs) k ≡ Some number
    → IsNumbered test n xs number
unfolding numbers_from
numbers_from-found test n [] k number found = absurd (none-some number found)
numbers_from-found test n (x ∷ xs) k number found =
    number_one test n x xs (test x) (numbers_from test (suc n) xs) k number refl found (λ j there. numbers_from-found test (suc n) xs j number there)
