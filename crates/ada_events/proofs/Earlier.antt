-- The earlier of two moments.
use Rattle.std.proofs.Common.{◌≡◌, ℤ, Bool, true, false, ◌⊎◌, Option, Some, None, refl, sym, arith, inl, inr}
use Rattle.std.specs.Prelude.{int_le, int_lt, if◌then◌else◌}
use Rattle.std.proofs.lemmas.Bool.{true≢false}
use Rattle.std.proofs.lemmas.Int.{ints}
use Rattle.ada_events.specs.Waits.{is_due, earlier}

lesser : (a b due : ℤ) (less : Bool) → int_lt b a ≡ less → (int_le a due ≡ true) ⊎ (int_le b due ≡ true) → int_le (if less then b else a) due ≡ true
lesser a b due true is (inl first) = grind (arith, ints)
lesser a b due true is (inr second) = second
lesser a b due false is (inl first) = first
lesser a b due false is (inr second) = grind (arith, ints)

-- the earlier of two comes where one does
pub one_comes : (a b : Option ℤ) (due : ℤ) → (is_due due a ≡ true) ⊎ (is_due due b ≡ true) → is_due due (earlier a b) ≡ true
unfolding earlier
one_comes None b due (inl first) = absurd (true≢false (sym first))
one_comes None b due (inr second) = second
one_comes (Some m) None due (inl first) = first
one_comes (Some m) None due (inr second) = absurd (true≢false (sym second))
one_comes (Some m) (Some n) due comes = lesser m n due (int_lt n m) refl comes
