-- How a word is read as a number. What a number's word is, the spelling says by `signed_decimal`; this is
-- the way back, and stands for nothing by itself.
use Rattle.std.specs.Prelude.{◌≡◌, ℕ, zero, suc, ◌<◌, ℤ, pos, negsuc, ◌&&◌, ◌^◌, ◌==◌, nat_lt, if◌then◌else◌}
use Rattle.std.specs.Prelude.{List, [], ◌∷◌, length, get_or, Option, Some, None, option_and_then, decimal}
use Rattle.std.specs.Str.{bytes_eq}
use Rattle.std.specs.Str.Parse.{digits_value}

-- a first byte is there, and a 0 stands alone
abbrev pub IsLed : List ℕ → Type 0
IsLed word = (0 < length word) × (get_or word 0 0 ≡ 48 → length word ≡ 1)

-- the number below 2 ^ 64 whose spelling this is
unfoldable pub natural_of : List ℕ → Option ℕ
natural_of word = if nat_lt (digits_value 10 word) (2 ^ 64) && bytes_eq (decimal (digits_value 10 word)) word then Some (digits_value 10 word) else None

abbrev pub positive : ℕ → ℕ → Option ℤ
positive limit n = if nat_lt n limit then Some (pos n) else None

-- a minus stands before no 0
abbrev pub negative : ℕ → ℕ → Option ℤ
negative limit zero = None
negative limit (suc n) = if nat_lt n limit then Some (negsuc n) else None

-- the number from -limit to limit - 1 whose spelling this is
unfoldable pub integer_of : ℕ → List ℕ → Option ℤ
integer_of limit [] = None
integer_of limit (b ∷ bytes) =
    if b == 45 then option_and_then (negative limit) (natural_of bytes) else option_and_then (positive limit) (natural_of (b ∷ bytes))
