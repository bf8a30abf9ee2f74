-- A loop that fills an array with what a function gives at each index.
use Rattle.std.proofs.Common.{◌≡◌, ℕ, ◌<◌, ◌+◌, List, length, get_or, set, ap, ◌∙◌}
use Rattle.std.proofs.Math.ListN.{length-set}
use Rattle.std.proofs.lemmas.List.FromFn.{fill_by_all}
use Rattle.std.proofs.lemmas.List.Edits.{fill_by_more}
use Rattle.ada_events.specs.Boards.{listed}

pub listed_all : {X : Type 0} (f : ℕ → X) (xs : List X) (n : ℕ) (d : X) → length xs ≡ n → ((k : ℕ) → k < n → get_or xs k d ≡ f k) → xs ≡ listed n f
unfolding listed
listed_all f xs n d long each = fill_by_all f xs n d long each

pub filled_more : {X : Type 0} (f : ℕ → X) (xs : List X) (i at n : ℕ) (x d : X) → i < n → at ≡ i → x ≡ f i → (length xs ≡ n)
    × ((k : ℕ) → k < i → get_or xs k d ≡ f k) → (length (set xs at x) ≡ n) × ((k : ℕ) → k < i + 1 → get_or (set xs at x) k d ≡ f k)
filled_more f xs i at n x d below there is before = (
  length-set xs at x ∙ before.0,
  λ k within.
      rw there (ap (λ y. get_or (set xs i y) k d) is ∙ fill_by_more f xs i d (rw before.0 below) before.1 k within),
)
