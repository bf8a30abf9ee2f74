-- Numbers in their order, from 0 on.
use Rattle.std.proofs.Common.{◌≡◌, ℕ, zero, suc, ◌+◌, ◌<◌, Bool, true, false, ◌||◌, fold, refl, sym, ap, ◌∙◌, arith}
use Rattle.std.specs.List.{range_with_len, list_any}
use Rattle.std.proofs.lemmas.Bool.{or_right, or_left}
use Rattle.std.proofs.Math.Bool.{or-false}

-- ---- from a number on

fold_from : {B : Type 0} (f : B → ℕ → B) (b : B) (a n : ℕ) → fold f b (range_with_len a (suc n)) ≡ f (fold f b (range_with_len a n)) (a + n)
fold_from f b a zero = ap (f b) (omega arith)
fold_from f b a (suc n) =
    fold_from f (f b a) (a + 1) n ∙ ap (f (fold f (f b a) (range_with_len (a + 1) n))) (omega arith)

any_from : (test : ℕ → Bool) (a n : ℕ) → list_any test (range_with_len a (suc n)) ≡ (list_any test (range_with_len a n) || test (a + n))
any_from test a zero = ap (λ k. test k || false) (omega arith) ∙ or-false (test (a + 0))
any_from test a (suc n) =
    ap (λ b. test a || b) (any_from test (a + 1) n ∙ ap (λ k. list_any test (range_with_len (a + 1) n) || test k) (omega arith))
    ∙ by (test a)
  where
    by : (b : Bool) → (b || (list_any test (range_with_len (a + 1) n) || test (a + suc n)))
        ≡ ((b || list_any test (range_with_len (a + 1) n)) || test (a + suc n))
    by true = refl
    by false = refl

any_there : (test : ℕ → Bool) (a n k : ℕ) → k < n → test (a + k) ≡ true → list_any test (range_with_len a n) ≡ true
any_there test a zero k below is = absurd (omega (arith, below))
any_there test a (suc n) zero below is = or_left (test a) (list_any test (range_with_len (a + 1) n)) (ap test (omega arith) ∙ is)
any_there test a (suc n) (suc k) below is =
    or_right (test a) (list_any test (range_with_len (a + 1) n))
    (any_there test (a + 1) n k (omega (arith, below)) (ap test (omega arith) ∙ is))

-- ---- from 0 on

-- one number more
pub fold_more : {B : Type 0} (f : B → ℕ → B) (b last next : B) (n : ℕ) → last ≡ fold f b (range_with_len 0 n) → next ≡ f last n
    → next ≡ fold f b (range_with_len 0 (n + 1))
fold_more f b last next n before is =
    is ∙ ap (λ l. f l n) before
    ∙ sym (ap (λ k. fold f b (range_with_len 0 k)) (count n) ∙ fold_from f b 0 n ∙ ap (f (fold f b (range_with_len 0 n))) (omega arith))
  where
    count : (n : ℕ) → n + 1 ≡ suc n
    count n = omega arith

-- one more doesn't pass
pub none_more : (test : ℕ → Bool) (n : ℕ) (last : Bool) → list_any test (range_with_len 0 n) ≡ false → last ≡ test n → last ≡ false
    → list_any test (range_with_len 0 (n + 1)) ≡ false
none_more test n last before is here =
    ap (λ k. list_any test (range_with_len 0 k)) (count n) ∙ any_from test 0 n
    ∙ ap (λ b. b || test (0 + n)) before ∙ ap test (omega arith) ∙ sym is ∙ here
  where
    count : (n : ℕ) → n + 1 ≡ suc n
    count n = omega arith

-- one that passes is among them
pub one_passes : (test : ℕ → Bool) (n k : ℕ) → k < n → test k ≡ true → list_any test (range_with_len 0 n) ≡ true
one_passes test n k below is = any_there test 0 n k below (ap test (omega arith) ∙ is)
