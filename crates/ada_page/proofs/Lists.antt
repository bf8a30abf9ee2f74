-- Lists with one more at their end.
use Rattle.std.proofs.Common.{◌≡◌, ◌⊎◌, inl, inr, ℕ, zero, suc, Some, List, [], ◌∷◌, ◌++◌, length, slice_get, refl, ap}
use Rattle.std.proofs.lemmas.Option.{none-some, same_Some}

-- an item of a list with one more at its end is of the list, or that one
pub last_or_earlier : {X : Type 0} (xs : List X) (last : X) (k : ℕ) (x : X) → slice_get (xs ++ last ∷ []) k ≡ Some x
    → (slice_get xs k ≡ Some x) ⊎ ((k ≡ length xs) × (last ≡ x))
last_or_earlier [] last zero x is = inr (refl, same_Some last x is)
last_or_earlier [] last (suc k) x is = absurd (none-some x is)
last_or_earlier (y ∷ ys) last zero x is = inl is
last_or_earlier (y ∷ ys) last (suc k) x is = shifted (last_or_earlier ys last k x is)
  where
    shifted : (slice_get ys k ≡ Some x) ⊎ ((k ≡ length ys) × (last ≡ x)) → (slice_get (y ∷ ys) (suc k) ≡ Some x) ⊎ ((suc k ≡ suc (length ys)) × (last ≡ x))
    shifted (inl there) = inl there
    shifted (inr (at, same)) = inr (ap suc at, same)
