-- Spaces before a word.
use Rattle.std.specs.Prelude.{ℕ, Bool, false, ◌==◌, List, [], ◌∷◌}
use Rattle.ada_statements.specs.Text.{space}

abbrev pub is_space : ℕ → Bool
is_space b = b == space

abbrev pub begins_with_space : List ℕ → Bool
begins_with_space [] = false
begins_with_space (b ∷ bytes) = is_space b
