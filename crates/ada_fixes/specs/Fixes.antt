-- What a text becomes by repairs that are certain.
use Rattle.std.specs.Prelude.{◌≡◌, ℕ, Bool, true, false, ◌&&◌, ◌||◌, not, ◌==◌, leb, nat_le, List, [], ◌∷◌, ◌++◌, length}
use Rattle.std.specs.List.{list_all}
use Rattle.ada_statements.specs.Text.{line_feed, is_letter, is_name_byte}

abbrev pub carriage_return : ℕ
carriage_return = 13

abbrev pub dash : ℕ
dash = 45

abbrev pub is_printable : ℕ → Bool
is_printable b = leb 32 b && leb b 126

-- neither printable ASCII nor of the end of a line
abbrev pub is_foreign : ℕ → Bool
is_foreign b = not (is_printable b) && (not (b == line_feed) && not (b == carriage_return))

-- the form of a name, but more than 16 characters
abbrev pub is_long_name : List ℕ → Bool
is_long_name [] = false
is_long_name (b ∷ bytes) = nat_le 16 (length bytes) && is_letter b && list_all is_name_byte bytes

-- the dashes of a comment in Ada
abbrev pub are_dashes : List ℕ → Bool
are_dashes (a ∷ b ∷ []) = a == dash && b == dash
are_dashes _ = false

-- a part of a line becomes no more bytes, all of printable ASCII
abbrev pub is_rewritten : List ℕ → List ℕ → Bool
is_rewritten part instead = (list_all is_foreign part || (is_long_name part || are_dashes part))
    && (list_all is_printable instead && leb (length instead) (length part))

-- a carriage return becomes nothing, or a line feed
abbrev pub is_ended : List ℕ → List ℕ → Bool
is_ended (b ∷ []) [] = b == carriage_return
is_ended (b ∷ []) (c ∷ []) = b == carriage_return && c == line_feed
is_ended _ _ = false

-- part by part a text is kept, or repaired
pub data IsFixed : List ℕ → List ℕ → Type 0 where
  nothing : IsFixed [] []
  kept : {given fixed : List ℕ} → IsFixed given fixed → (part : List ℕ) → IsFixed (given ++ part) (fixed ++ part)
  repaired : {given fixed : List ℕ} → IsFixed given fixed → (part instead : List ℕ)
      → (is_rewritten part instead || is_ended part instead) ≡ true → IsFixed (given ++ part) (fixed ++ instead)
