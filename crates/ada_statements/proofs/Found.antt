-- The first of some values that passes a test.
use Rattle.std.proofs.Common.{◌≡◌, ℕ, suc, ◌+◌, Bool, true, false, cond, List, [], ◌∷◌, length, drop, find, slice_get, zero, ◌≤◌, Some, None, refl}
use Rattle.std.proofs.Common.{sym, ap, ◌∙◌, arith, add-one}
use Rattle.std.proofs.Math.ListN.{drop_of_length-le}

-- the first that passes passes
pub found_passes : {X : Type 0} (test : X → Bool) (xs : List X) (x : X) → find test xs ≡ Some x → test x ≡ true
found_passes test [] x e = absurd cc
found_passes test (y ∷ ys) x e = by (found_passes test ys x) (test y) refl e
  where
    by : (find test ys ≡ Some x → test x ≡ true) → (t : Bool) → test y ≡ t → cond t (Some y) (find test ys) ≡ Some x → test x ≡ true
    by later true p e = let same : y ≡ x = cc in rw (← same) p
    by later false p e = later e

module _ {X : Type 0} (test : X → Bool) where
  -- what stands at a place
  at_place : (xs : List X) (i : ℕ) (x : X) → slice_get xs i ≡ Some x → drop i xs ≡ x ∷ drop (suc i) xs
  at_place [] i x e = absurd cc
  at_place (y ∷ ys) zero x e = let same : y ≡ x = cc in ap (λ (z : X). z ∷ ys) same
  at_place (y ∷ ys) (suc i) x e = at_place ys i x e

  pub find_missing : (xs : List X) (i : ℕ) → slice_get xs i ≡ None → find test (drop i xs) ≡ None
  find_missing [] i e = ap (find test) (drop_of_length-le [] (omega arith))
  find_missing (y ∷ ys) zero e = absurd cc
  find_missing (y ∷ ys) (suc i) e = find_missing ys i e

  pub find_at : (xs : List X) (i : ℕ) (x : X) → slice_get xs i ≡ Some x → test x ≡ true → find test (drop i xs) ≡ Some x
  find_at xs i x at passes = ap (find test) (at_place xs i x at) ∙ ap (λ t. cond t (Some x) (find test (drop (suc i) xs))) passes

  pub find_behind : (xs : List X) (i : ℕ) (x : X) → slice_get xs i ≡ Some x → test x ≡ false → find test (drop (i + 1) xs) ≡ find test (drop i xs)
  find_behind xs i x at fails = rw add-one (sym (ap (find test) (at_place xs i x at) ∙ ap (λ t. cond t (Some x) (find test (drop (suc i) xs))) fails))

  pub find_past : (xs : List X) (i : ℕ) → length xs ≤ i → find test (drop i xs) ≡ None
  find_past xs i past = ap (find test) (drop_of_length-le xs past)
