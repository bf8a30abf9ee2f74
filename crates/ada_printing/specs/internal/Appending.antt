-- What appending leaves as it was. It stands for nothing by itself: what is appended, the texts say.
use Rattle.std.specs.Prelude.{◌≡◌, ℕ, List, length, take}

-- a text begins so
abbrev pub Begins : List ℕ → List ℕ → Type 0
Begins start text = take (length start) text ≡ start

-- a text begins with whatever it began with before
abbrev pub KeepsStarts : List ℕ → List ℕ → Type 0
KeepsStarts before after = (start : List ℕ) → Begins start before → Begins start after
