-- Sums over the numbers below a bound.
use Rattle.std.proofs.Common.{◌≡◌, ℕ, zero, suc, ◌*◌, ◌<◌, ◌≤◌, Bool, true, false, refl, arith, inl, inr}
use Rattle.std.proofs.lemmas.Bool.{cases_eq, true≢false, false≢true}
use Rattle.ada_laws.specs.Work.{one_if, sum_below}

pub one_if-one : (a : Bool) → one_if a ≤ 1
one_if-one true = omega arith
one_if-one false = omega arith

pub one_if-le : (a b : Bool) → (a ≡ true → b ≡ true) → one_if a ≤ one_if b
one_if-le true true keeps = omega arith
one_if-le true false keeps = absurd (false≢true (keeps refl))
one_if-le false b keeps = omega arith

pub one_if-lt : (a b : Bool) → a ≡ false → b ≡ true → one_if a < one_if b
one_if-lt true b fails passes = absurd (true≢false fails)
one_if-lt false true fails passes = omega arith
one_if-lt false false fails passes = absurd (false≢true passes)

pub sum_below-le : (f g : ℕ → ℕ) (n : ℕ) → ((u : ℕ) → f u ≤ g u) → sum_below f n ≤ sum_below g n
unfolding sum_below
sum_below-le f g zero each = omega arith
sum_below-le f g (suc n) each =
    let below : sum_below f n ≤ sum_below g n = sum_below-le f g n each in
    let here : f n ≤ g n = each n in
    omega arith

-- a sum is less where one of its parts is, and the others are no more
pub sum_below-lt : (f g : ℕ → ℕ) (n u : ℕ) → ((u : ℕ) → f u ≤ g u) → u < n → f u < g u → sum_below f n < sum_below g n
unfolding sum_below
sum_below-lt f g zero u each below less = absurd (omega arith)
sum_below-lt f g (suc n) u each below less =
    let here : f n ≤ g n = each n in
    elim (cases_eq u n) [
      | inl same ↦
          let rest : sum_below f n ≤ sum_below g n = sum_below-le f g n each in
          let less_here : f n < g n = rw same at less in
          omega arith
      | inr other ↦
          let rest : sum_below f n < sum_below g n = sum_below-lt f g n u each (omega arith) less in
          omega arith
    ]

pub sum_below-bound : (f : ℕ → ℕ) (k n : ℕ) → ((u : ℕ) → f u ≤ k) → sum_below f n ≤ k * n
unfolding sum_below
sum_below-bound f k zero each = omega arith
sum_below-bound f k (suc n) each =
    let rest : sum_below f n ≤ k * n = sum_below-bound f k n each in
    let here : f n ≤ k = each n in
    omega arith
