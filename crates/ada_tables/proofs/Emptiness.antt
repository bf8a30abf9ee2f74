-- Whether all numbers below another pass a test, one number more.
use Rattle.std.proofs.Common.{◌≡◌, ℕ, zero, suc, ◌+◌, ◌<◌, Bool, true, false, ◌&&◌, refl, arith, add-one, inl, inr}
use Rattle.std.proofs.lemmas.Bool.{cases_eq, and_left, and_right}
use Rattle.ada_events.specs.Search.{all_below}

pub all_more : (test : ℕ → Bool) (many : ℕ) → all_below test (many + 1) ≡ (all_below test many && test many)
unfolding all_below
all_more test many = rw add-one refl

pub all_fails : (test : ℕ → Bool) (many one : ℕ) → one < many → test one ≡ false → all_below test many ≡ false
unfolding all_below
all_fails test zero one low fails = absurd (omega arith)
all_fails test (suc many) one low fails =
    elim (cases_eq one many) [
      | inl same ↦ and_right _ _ (rw same at fails)
      | inr differs ↦ and_left _ _ (all_fails test many one (omega arith) fails)
    ]

pub all_of_none : (test : ℕ → Bool) → true ≡ all_below test 0
unfolding all_below
all_of_none test = refl
