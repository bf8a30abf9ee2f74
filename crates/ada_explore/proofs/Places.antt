-- Numbers in their order, and those of them that pass a test.
use Rattle.std.proofs.Common.{◌≡◌, ℕ, zero, suc, ◌+◌, Bool, true, false, if◌then◌else◌, List, [], ◌∷◌, ◌++◌, filter}
use Rattle.std.proofs.Common.{find, drop, get_or, length, ◌<◌, ◌≤◌, Some, None, refl, ap, sym, ◌∙◌, arith, drop-cons}
use Rattle.std.proofs.Math.ListN.{drop_of_length-le}
use Rattle.std.specs.List.{range_with_len, list_any}
use Rattle.std.proofs.lemmas.List.Elements.{filter-append}

-- one more number comes last
range_more : (a n : ℕ) → range_with_len a (suc n) ≡ range_with_len a n ++ (a + n) ∷ []
range_more a zero = ap (λ k. k ∷ []) (omega arith)
range_more a (suc n) =
    let same : (a + 1) + n ≡ a + suc n = omega arith in
    ap (λ ks. a ∷ ks) (range_more (a + 1) n ∙ ap (λ k. range_with_len (a + 1) n ++ k ∷ []) same)

range_one_more : (n : ℕ) → range_with_len 0 (n + 1) ≡ range_with_len 0 n ++ n ∷ []
range_one_more n =
    let count : n + 1 ≡ suc n = omega arith in
    let last : 0 + n ≡ n = omega arith in
    ap (range_with_len 0) count ∙ range_more 0 n ∙ ap (λ k. range_with_len 0 n ++ k ∷ []) last

-- of one more number, it is kept if it passes
pub kept_more : (test : ℕ → Bool) (n : ℕ) (b : Bool) → test n ≡ b
    → filter test (range_with_len 0 (n + 1)) ≡ filter test (range_with_len 0 n) ++ (if b then n ∷ [] else [])
kept_more test n b is =
    ap (filter test) (range_one_more n) ∙ filter-append test (range_with_len 0 n) (n ∷ []) ∙ ap (λ ks. filter test (range_with_len 0 n) ++ ks) (one b is)
  where
    one : (c : Bool) → test n ≡ c → filter test (n ∷ []) ≡ (if c then n ∷ [] else [])
    one true passes = rw passes refl
    one false fails = rw fails refl

-- the first that passes, from a number's place on
pub find_on : (test : ℕ → Bool) (xs : List ℕ) (i d : ℕ) (b : Bool) → i < length xs → test (get_or xs i d) ≡ b
    → find test (drop i xs) ≡ (if b then Some (get_or xs i d) else find test (drop (suc i) xs))
find_on test xs i d b below is = ap (find test) (drop-cons xs i d below) ∙ one b is
  where
    one : (c : Bool) → test (get_or xs i d) ≡ c
        → find test (get_or xs i d ∷ drop (suc i) xs) ≡ (if c then Some (get_or xs i d) else find test (drop (suc i) xs))
    one true passes = rw passes refl
    one false fails = rw fails refl

pub find_past : (test : ℕ → Bool) (xs : List ℕ) (i : ℕ) → length xs ≤ i → find test (drop i xs) ≡ None
find_past test xs i past = ap (find test) (drop_of_length-le xs past)

-- whether one passes, from a number's place on
pub any_on : (test : ℕ → Bool) (xs : List ℕ) (i d : ℕ) (b : Bool) → i < length xs → test (get_or xs i d) ≡ b
    → list_any test (drop i xs) ≡ (if b then true else list_any test (drop (suc i) xs))
any_on test xs i d b below is = ap (list_any test) (drop-cons xs i d below) ∙ one b is
  where
    one : (c : Bool) → test (get_or xs i d) ≡ c
        → list_any test (get_or xs i d ∷ drop (suc i) xs) ≡ (if c then true else list_any test (drop (suc i) xs))
    one true passes = rw passes refl
    one false fails = rw fails refl

pub any_past : (test : ℕ → Bool) (xs : List ℕ) (i : ℕ) → length xs ≤ i → list_any test (drop i xs) ≡ false
any_past test xs i past = ap (list_any test) (drop_of_length-le xs past)

-- the same of a list that grows
pub keeps_more : (test : ℕ → Bool) (xs ys : List ℕ) (n k : ℕ) (b : Bool) → k ≡ n → b ≡ test k → xs ≡ filter test (range_with_len 0 n)
    → ys ≡ xs ++ (if b then k ∷ [] else []) → ys ≡ filter test (range_with_len 0 (n + 1))
keeps_more test xs ys n k b same is begun grows =
    grows ∙ ap (λ zs. zs ++ (if b then k ∷ [] else [])) begun ∙ ap (λ j. filter test (range_with_len 0 n) ++ (if b then j ∷ [] else [])) same
    ∙ sym (kept_more test n b (ap test (sym same) ∙ sym is))
