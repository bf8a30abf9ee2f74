-- Numbers and their spellings.
use Rattle.std.proofs.Common.{◌≡◌, ℕ, zero, suc, ◌+◌, ◌-◌, ◌*◌, ◌^◌, ◌<◌, ◌≤◌, ◌&&◌, Bool, true, false, cond, ltb, List, [], ◌∷◌, length, get_or, take}
use Rattle.std.proofs.Common.{Option, Some, None, ℤ, pos, negsuc, FitsSigned, to_z, of_z, w32, w64, refl, sym, ap, subst, ◌∙◌, arith, inl, inr}
use Rattle.std.specs.Prelude.{MatchOption, IfSome, decimal, option_and_then}
use Rattle.std.specs.Fmt.{signed_decimal}
use Rattle.std.specs.Int.{IsInRange}
use Rattle.std.specs.Str.{bytes_eq}
use Rattle.std.specs.Str.Parse.{AllDigits, digits_value, IsNumeral}
use Rattle.std.proofs.lemmas.Bool.{lt-ltb, ltb-true}
use Rattle.std.proofs.lemmas.Bool.Decides.{eqb_tells}
use Rattle.std.proofs.lemmas.Int.{to_z-of_z}
use Rattle.std.proofs.lemmas.Int.Digits.{digits_more, digits_value_more}
use Rattle.std.proofs.lemmas.Slice.Eq.{bytes_eq-Decides}
use Rattle.std.proofs.lemmas.Fmt.{decimal_digit, decimal_is_IsNumeral, decimal_nonempty, decimal-digits_value, first_decimal}
use Rattle.std.proofs.lemmas.Str.{digit_value_digit}
use Rattle.std.proofs.lemmas.Str.Parse.{digit_at, digits_value-take-le, numerals_by_value, tells_digits}
use Rattle.ada_script.specs.internal.Number.{IsLed, natural_of, positive, negative, integer_of}

-- a word is the spelling of one number at most
abbrev IsSpelledBy : List ℕ → Option ℕ → Type 0
IsSpelledBy word r = MatchOption r ((n : ℕ) → n < 2 ^ 64 → decimal n ≡ word → ⊥) (λ n. decimal n ≡ word)

-- a spelling has a first digit, which is no 0 but alone
pub decimal_is_led : (n : ℕ) (word : List ℕ) → n < 2 ^ 64 → decimal n ≡ word → IsLed word
decimal_is_led zero word lt e = subst IsLed (sym (decimal_digit 0 (omega arith)) ∙ e) (omega arith, λ _. refl)
decimal_is_led (suc n) word lt e =
    let first = first_decimal (suc n) (omega arith) lt in
    subst IsLed e (decimal_nonempty (suc n) lt, λ zero_first. absurd (omega (arith, first, zero_first)))

-- a word with another byte, or one whose digits so far are too many, is no spelling
pub no_digit : (word : List ℕ) (i number : ℕ) → i < length word → number ≡ digits_value 10 (take i word)
    → (IsInRange 48 57 (get_or word i 0) → 2 ^ 64 ≤ number * 10 + (get_or word i 0 - 48))
    → (n : ℕ) → n < 2 ^ 64 → decimal n ≡ word → ⊥
no_digit word i number within so_far fails n lt e =
    let numeral = subst (λ w. IsNumeral 10 w × (digits_value 10 w ≡ n)) e (decimal_is_IsNumeral n lt) in
    let digit = digit_at word i numeral.0.1 within in
    let value = digit_value_digit (get_or word i 0) digit in
    let more = digits_value_more 10 word i within in
    let least = digits_value-take-le 10 word (i + 1) (omega arith) in
    let full = fails digit in
    omega (arith, value, more, least, full, so_far, numeral.1, lt)

-- digits of which the first is no 0 but alone are the spelling of their value
pub digits_are_spelled : (word : List ℕ) (number : ℕ) → IsLed word → AllDigits 10 word → number ≡ digits_value 10 word → number < 2 ^ 64 → decimal number ≡ word
digits_are_spelled word number led digits is lt =
    rw is (decimal-digits_value (numerals_by_value (AllDigits 10) tells_digits) word digits led.0 led.1 (rw (← is) lt))

-- one more digit
pub digit_more : (word : List ℕ) (i number : ℕ) → i < length word → IsInRange 48 57 (get_or word i 0)
    → AllDigits 10 (take i word) → number ≡ digits_value 10 (take i word)
    → AllDigits 10 (take (i + 1) word) × (number * 10 + (get_or word i 0 - 48) ≡ digits_value 10 (take (i + 1) word))
digit_more word i number within digit digits so_far =
    let value = digit_value_digit (get_or word i 0) digit in
    let more = digits_value_more 10 word i within in
    (digits_more 10 word i within digits (omega (arith, value, digit)), omega (arith, value, more, so_far))

value_of_decimal : (n : ℕ) (word : List ℕ) → n < 2 ^ 64 → decimal n ≡ word → digits_value 10 word ≡ n
value_of_decimal n word lt e = subst (λ w. digits_value 10 w ≡ n) e (decimal_is_IsNumeral n lt).1

pub natural_of-spelled : (n : ℕ) (word : List ℕ) → n < 2 ^ 64 → decimal n ≡ word → natural_of word ≡ Some n
unfolding natural_of
natural_of-spelled n word lt e =
    let value : digits_value 10 word ≡ n = value_of_decimal n word lt e in
    let low : ltb n (2 ^ 64) ≡ true = lt-ltb n (2 ^ 64) lt in
    let same : bytes_eq (decimal n) word ≡ true = (bytes_eq-Decides (decimal n) word).1 e in
    rw (value, low, same) refl

-- what is read as a number is spelled so
pub natural_of-reads : (word : List ℕ) (n : ℕ) → natural_of word ≡ Some n → (n < 2 ^ 64) × (decimal n ≡ word)
unfolding natural_of
natural_of-reads word n e = by (ltb (digits_value 10 word) (2 ^ 64)) (bytes_eq (decimal (digits_value 10 word)) word) refl refl e
  where
    by : (small same : Bool) → ltb (digits_value 10 word) (2 ^ 64) ≡ small → bytes_eq (decimal (digits_value 10 word)) word ≡ same
        → cond (small && same) (Some (digits_value 10 word)) None ≡ Some n → (n < 2 ^ 64) × (decimal n ≡ word)
    by false same p q e = absurd cc
    by true false p q e = absurd cc
    by true true p q e =
        let value : digits_value 10 word ≡ n = cc in
        (rw (← value) (ltb-true _ _ p), rw (← value) ((bytes_eq-Decides (decimal (digits_value 10 word)) word).0 q))

-- what is spelled so is read, and nothing else
pub natural_of-is : (word : List ℕ) (r : Option ℕ) → IfSome r (λ n. n < 2 ^ 64) → IsSpelledBy word r → r ≡ natural_of word
natural_of-is word (Some n) lt e = sym (natural_of-spelled n word lt e)
natural_of-is word None lt none = by (natural_of word) refl
  where
    by : (found : Option ℕ) → natural_of word ≡ found → None ≡ found
    by None e = refl
    by (Some n) e = let reads = natural_of-reads word n e in absurd (none n reads.0 reads.1)

-- from -limit to limit - 1
abbrev pub IsInteger : ℕ → ℤ → Type 0
IsInteger limit (pos n) = n < limit
IsInteger limit (negsuc n) = n < limit

pub FitsSigned-32 : (z : ℤ) → IsInteger (2 ^ 31) z → FitsSigned w32 z
FitsSigned-32 (pos n) lt = record { sfits = lt }
FitsSigned-32 (negsuc n) lt = record { sfits = lt }

pub FitsSigned-64 : (z : ℤ) → IsInteger (2 ^ 63) z → FitsSigned w64 z
FitsSigned-64 (pos n) lt = record { sfits = lt }
FitsSigned-64 (negsuc n) lt = record { sfits = lt }

wider : (z : ℤ) → IsInteger (2 ^ 31) z → IsInteger (2 ^ 63) z
wider (pos n) lt = omega arith
wider (negsuc n) lt = omega arith

positive_reads : (limit : ℕ) (word : List ℕ) (z : ℤ) → option_and_then (positive limit) (natural_of word) ≡ Some z → IsInteger limit z
    × (signed_decimal z ≡ word)
positive_reads limit word z e = by (natural_of word) refl e
  where
    by : (found : Option ℕ) → natural_of word ≡ found → option_and_then (positive limit) found ≡ Some z → IsInteger limit z × (signed_decimal z ≡ word)
    by None p e = absurd cc
    by (Some n) p e = chosen (ltb n limit) refl e
      where
        chosen : (small : Bool) → ltb n limit ≡ small → cond small (Some (pos n)) None ≡ Some z → IsInteger limit z × (signed_decimal z ≡ word)
        chosen false q e = absurd cc
        chosen true q e = let is : pos n ≡ z = cc in subst (λ y. IsInteger limit y × (signed_decimal y ≡ word)) is
            (ltb-true _ _ q, (natural_of-reads word n p).1)

negative_reads : (limit : ℕ) (digits : List ℕ) (z : ℤ) → option_and_then (negative limit) (natural_of digits) ≡ Some z → IsInteger limit z
    × (signed_decimal z ≡ 45 ∷ digits)
negative_reads limit digits z e = by (natural_of digits) refl e
  where
    by : (found : Option ℕ) → natural_of digits ≡ found → option_and_then (negative limit) found ≡ Some z → IsInteger limit z × (signed_decimal z ≡ 45 ∷ digits)
    by None p e = absurd cc
    by (Some zero) p e = absurd cc
    by (Some (suc n)) p e = chosen (ltb n limit) refl e
      where
        chosen : (small : Bool) → ltb n limit ≡ small → cond small (Some (negsuc n)) None ≡ Some z → IsInteger limit z × (signed_decimal z ≡ 45 ∷ digits)
        chosen false q e = absurd cc
        chosen true q e = let is : negsuc n ≡ z = cc in subst (λ y. IsInteger limit y × (signed_decimal y ≡ 45 ∷ digits)) is
            (ltb-true _ _ q, ap (λ (ds : List ℕ). 45 ∷ ds) (natural_of-reads digits (suc n) p).1)

-- what is read as a number is spelled so
pub integer_of-reads : (limit : ℕ) (word : List ℕ) (z : ℤ) → integer_of limit word ≡ Some z → IsInteger limit z × (signed_decimal z ≡ word)
unfolding integer_of
integer_of-reads limit [] z e = absurd cc
integer_of-reads limit (b ∷ bytes) z e =
    elim (eqb_tells b 45) [
      | inl same ↦ rw same.1 (negative_reads limit bytes z (rw same.0 at e))
      | inr other ↦ positive_reads limit (b ∷ bytes) z (rw other.0 at e)
    ]

-- the casts to an index
pub index_fits : (word : List ℕ) (z : ℤ) → integer_of (2 ^ 31) word ≡ Some z → FitsSigned w32 (to_z w64 (of_z w64 z))
index_fits word z read =
    let fits = (integer_of-reads (2 ^ 31) word z read).0 in
    rw (to_z-of_z w64 z (FitsSigned-64 z (wider z fits))) (FitsSigned-32 z fits)

pub index_same : (word : List ℕ) (z : ℤ) → integer_of (2 ^ 31) word ≡ Some z → to_z w32 (of_z w32 (to_z w64 (of_z w64 z))) ≡ z
index_same word z read =
    let fits = (integer_of-reads (2 ^ 31) word z read).0 in
    rw (to_z-of_z w64 z (FitsSigned-64 z (wider z fits))) (to_z-of_z w32 z (FitsSigned-32 z fits))
