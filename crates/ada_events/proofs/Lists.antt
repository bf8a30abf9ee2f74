-- One more item in a loop over a list of alternatives.
use Rattle.std.proofs.Common.{◌≡◌, ℕ, ℤ, suc, ◌+◌, ◌-◌, ◌<◌, ◌≤◌, Bool, true, false, List, [], ◌∷◌, ◌++◌, Option, None, length, take, drop, get_or, refl, ap}
use Rattle.std.proofs.Common.{sym, ◌∙◌, arith, length-append, drop-cons, add-zero}
use Rattle.std.specs.Prelude.{if◌then◌else◌}
use Rattle.std.proofs.lemmas.List.{take_more, length-take-le}
use Rattle.std.proofs.Math.Seq.{drop-length}
use Rattle.ada_events.specs.Waits.{numbers_from, least_due, earlier}

pub length_with_if : {A : Type 0} (xs : List A) (b : Bool) (x : A) → length (xs ++ (if b then x ∷ [] else [])) ≤ length xs + 1
length_with_if xs true x = omega (arith, length-append xs (x ∷ []))
length_with_if xs false x = omega (arith, length-append xs [])

pub least_due_less : (dues : List (Option ℤ)) (n : ℕ) (d : Option ℤ) → 0 < n → n ≤ length dues
    → least_due (drop (n - 1) dues) ≡ earlier (get_or dues (n - 1) d) (least_due (drop n dues))
unfolding least_due
least_due_less dues n d low high =
    ap least_due (drop-cons dues (n - 1) d (omega arith) ∙ ap (λ k. get_or dues (n - 1) d ∷ drop k dues) (let e : suc (n - 1) ≡ n = omega arith in e))

-- behind the end nothing is due
pub least_due_past : (dues : List (Option ℤ)) → least_due (drop (length dues) dues) ≡ None
unfolding least_due
least_due_past dues = ap least_due (drop-length dues)

if-append : (b : Bool) (n : ℕ) (xs ys : List ℕ) → (if b then n ∷ (xs ++ ys) else xs ++ ys) ≡ (if b then n ∷ xs else xs) ++ ys
if-append true n xs ys = refl
if-append false n xs ys = refl

numbers_from-push : {A : Type 0} (test : A → Bool) (n : ℕ) (items : List A) (item : A)
    → numbers_from test n (items ++ item ∷ []) ≡ numbers_from test n items ++ (if test item then (n + length items) ∷ [] else [])
unfolding numbers_from
numbers_from-push test n [] item = rw add-zero refl
numbers_from-push test n (x ∷ items) item =
    let moved : suc n + length items ≡ n + suc (length items) = omega arith in
    let rest : numbers_from test (suc n) (items ++ item ∷ []) ≡ numbers_from test (suc n) items ++ (if test item then (n + suc (length items)) ∷ [] else []) =
    numbers_from-push test (suc n) items item ∙ ap (λ k. numbers_from test (suc n) items ++ (if test item then k ∷ [] else [])) moved in
    ap (λ ys. if test x then n ∷ ys else ys) rest
    ∙ if-append (test x) n (numbers_from test (suc n) items) (if test item then (n + suc (length items)) ∷ [] else [])

numbers_from_more : {A : Type 0} (test : A → Bool) (items : List A) (i : ℕ) (d : A) → i < length items
    → numbers_from test 0 (take (i + 1) items) ≡ numbers_from test 0 (take i items) ++ (if test (get_or items i d) then i ∷ [] else [])
numbers_from_more test items i d below =
    let before : 0 + length (take i items) ≡ i = omega (arith, length-take-le i items (omega arith)) in
    ap (numbers_from test 0) (take_more items i d below) ∙ numbers_from-push test 0 (take i items) (get_or items i d)
    ∙ ap (λ k. numbers_from test 0 (take i items) ++ (if test (get_or items i d) then k ∷ [] else [])) before

-- the step of a loop that numbers the items which pass
pub numbers_from_step : {A : Type 0} (test : A → Bool) (items : List A) (i : ℕ) (d : A) (so_far next : List ℕ) → i < length items
    → (so_far ≡ numbers_from test 0 (take i items)) × (length so_far ≤ i) → next ≡ so_far ++ (if test (get_or items i d) then i ∷ [] else [])
    → (next ≡ numbers_from test 0 (take (i + 1) items)) × (length next ≤ i + 1)
numbers_from_step test items i d so_far next below before step = (
  step ∙ ap (λ ys. ys ++ (if test (get_or items i d) then i ∷ [] else [])) before.0 ∙ sym (numbers_from_more test items i d below),
  rw step (omega (arith, length_with_if so_far (test (get_or items i d)) i, before.1)),
)
