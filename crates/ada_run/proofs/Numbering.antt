-- Items that are numbered from 0 on.
use Rattle.std.proofs.Common.{◌≡◌, ◌∙◌, sym, ap, ◌+◌, ℕ, List, map, ◌++◌, [], ◌∷◌}
use Rattle.std.specs.List.{range_with_len}
use Rattle.std.proofs.lemmas.List.{map_push, map-id}
use Rattle.std.proofs.lemmas.List.FromFn.{map-range_with_len_more}
use native.Mathlib.Omega.{arith}

range_more : (n : ℕ) → range_with_len 0 (n + 1) ≡ range_with_len 0 n ++ n ∷ []
range_more n =
    sym (map-id (range_with_len 0 (n + 1))) ∙ map-range_with_len_more (λ k. k) 0 n n (omega arith)
    ∙ ap (λ l. l ++ n ∷ []) (map-id (range_with_len 0 n))

-- one more item takes the next number
pub numbered_one_more : {X : Type 0} → (f : X → ℕ) (xs : List X) (x : X) (n : ℕ)
    → map f xs ≡ range_with_len 0 n → f x ≡ n → map f (xs ++ x ∷ []) ≡ range_with_len 0 (n + 1)
numbered_one_more f xs x n before next =
    map_push f xs x ∙ ap (λ l. l ++ f x ∷ []) before ∙ ap (λ k. range_with_len 0 n ++ k ∷ []) next ∙ sym (range_more n)
