-- The words of a text.
use Rattle.std.specs.Prelude.{ℕ, ◌≤◌, ◌<◌, List, length}
use Rattle.ada_text.specs.declared.word.Word.{Word}

-- a word that takes at least a byte of the text, and lies within it
abbrev pub IsWordOf : List ℕ → Word → Type 0
IsWordOf text word = (word.at < word.end) × (word.end ≤ length text) × (length text ≤ 1048576)
