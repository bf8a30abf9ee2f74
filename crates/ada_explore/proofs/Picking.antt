-- A pick that could matter is below the numbers of alternatives together.
use Rattle.std.proofs.Common.{◌≡◌, ℕ, ◌+◌, ◌<◌, ◌==◌, ◌&&◌, ◌||◌, not, true, inl, inr, arith}
use Rattle.std.specs.Prelude.{nat_lt}
use Rattle.std.proofs.lemmas.Bool.{and_parts, or_cases, ltb-true}

pub below_both : (written pick a b : ℕ) → (not (pick == written) && (nat_lt pick a || nat_lt pick b)) ≡ true → pick < a + b
below_both written pick a b could =
    elim (or_cases (nat_lt pick a) (nat_lt pick b) (and_parts (not (pick == written)) (nat_lt pick a || nat_lt pick b) could).1) [
      | inl first ↦ let below : pick < a = ltb-true pick a first in omega (arith, below)
      | inr second ↦ let below : pick < b = ltb-true pick b second in omega (arith, below)
    ]
