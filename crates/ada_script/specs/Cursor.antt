-- The words of a line that are left, as a cursor sees them.
use Rattle.std.specs.Prelude.{ℕ, Bool, true, false, List, [], ◌∷◌}

-- no word is left
abbrev pub is_over : List (List ℕ) → Bool
is_over [] = true
is_over (word ∷ words) = false
