-- How alternatives are written one after the other. What their words are, the spelling says; this stands for
-- nothing by itself.
use Rattle.std.specs.Prelude.{ℕ, Bool, true, false, List, [], ◌∷◌, ◌++◌, codes}

-- the word before an alternative that isn't the first
abbrev pub or_words : Bool → List (List ℕ)
or_words true = []
or_words false = codes "or" ∷ []

-- alternatives behind others, or the first of all
abbrev pub linked_by_or : Bool → List (List (List ℕ)) → List (List ℕ)
linked_by_or is_first [] = []
linked_by_or is_first (alternative ∷ others) = or_words is_first ++ alternative ++ linked_by_or false others
