-- The lines of a text, the words of a line, and the form of a name.
use Rattle.std.specs.Prelude.{ℕ, Bool, false, ◌&&◌, ◌||◌, not, ◌==◌, nat_le, if◌then◌else◌, List, [], ◌∷◌, length, filter}
use Rattle.std.specs.List.{list_all}

-- a line feed, a space and a number sign
abbrev pub line_feed : ℕ
line_feed = 10

abbrev pub space : ℕ
space = 32

abbrev pub number_sign : ℕ
number_sign = 35

-- the parts with a byte before the first of them
abbrev pub with_first : ℕ → List (List ℕ) → List (List ℕ)
with_first b [] = (b ∷ []) ∷ []
with_first b (part ∷ parts) = (b ∷ part) ∷ parts

-- what stands before, between and behind the bytes that separate; nothing behind the last of them is no part
abbrev pub parts_of : ℕ → List ℕ → List (List ℕ)
parts_of separator [] = []
parts_of separator (b ∷ bytes) = if b == separator then [] ∷ parts_of separator bytes else with_first b (parts_of separator bytes)

abbrev pub is_empty : List ℕ → Bool
is_empty bytes = length bytes == 0

abbrev pub lines_of : List ℕ → List (List ℕ)
lines_of text = parts_of line_feed text

abbrev pub words_in : List ℕ → List (List ℕ)
words_in line = filter (λ word. not (is_empty word)) (parts_of space line)

abbrev pub is_within : ℕ → ℕ → ℕ → Bool
is_within low high b = nat_le low b && nat_le b high

abbrev pub is_digit : ℕ → Bool
is_digit b = is_within 48 57 b

abbrev pub is_letter : ℕ → Bool
is_letter b = is_within 65 90 b || is_within 97 122 b

-- a letter, a digit or an underscore
abbrev pub is_name_byte : ℕ → Bool
is_name_byte b = is_letter b || is_digit b || b == 95

-- a letter and at most 15 letters, digits and underscores
abbrev pub is_name : List ℕ → Bool
is_name [] = false
is_name (b ∷ bytes) = nat_le (length bytes) 15 && is_letter b && list_all is_name_byte bytes
