-- What is visible (8.3): a name denotes what the innermost declaration of it declares. Declarations are listed from the innermost one outwards.
use Rattle.std.specs.Prelude.{◌≡◌, ℕ, ◌==◌, Option, Some, None, List, [], ◌∷◌, length, get_or, if◌then◌else◌, leb}
use Rattle.ada_names.specs.declared.meaning.Meaning.{Meaning}
use Rattle.ada_names.specs.declared.scopes.Entity.{Entity}
use Rattle.ada_names.specs.declared.scopes.Visible.{Visible}

-- the innermost declaration of the name with this number: what it declares, and how many declarations stand outside of it
abbrev pub innermost : List Entity → ℕ → Option Visible
innermost [] symbol = None
innermost (entity ∷ outside) symbol =
    if entity.symbol.0 == symbol then Some (record { meaning = entity.meaning; outside = length outside })
    else innermost outside symbol

-- what a declaration declares, if at least so many stand outside of it
abbrev pub meaning_within : ℕ → Option Visible → Option Meaning
meaning_within first (Some visible) = if leb first visible.outside then Some visible.meaning else None
meaning_within first None = None

-- each declaration notes the one that it hides
abbrev pub AreHidden : List Entity → Type 0
AreHidden [] = Unit {0}
AreHidden (entity ∷ outside) = (entity.hidden ≡ innermost outside entity.symbol.0) × AreHidden outside

-- and a table has the innermost one of each name
pub record AreKept (entities : List Entity) (table : List (Option Visible)) : Type 0 where
  pub hidden : AreHidden entities
  pub visible : (symbol : ℕ) → get_or table symbol None ≡ innermost entities symbol
