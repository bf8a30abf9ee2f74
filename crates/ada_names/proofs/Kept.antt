-- What the table of the innermost declarations has.
use Rattle.std.proofs.Common.{◌≡◌, ◌<◌, Option, Some, List, ◌∷◌, length, arith}
use Rattle.std.proofs.lemmas.Grind.{common_steps}
use Rattle.ada_names.specs.declared.scopes.Entity.{Entity}
use Rattle.ada_names.specs.declared.scopes.Visible.{Visible}
use Rattle.ada_names.specs.internal.Visibility.{innermost, AreKept}

-- the innermost declaration is that of its own name
here : (entity : Entity) (outside : List Entity)
    → innermost (entity ∷ outside) entity.symbol.0 ≡ Some (record { meaning = entity.meaning; outside = length outside })
here entity outside = grind (arith, common_steps)

-- so a declaration that is there has its place in the table
pub kept_within : (entities : List Entity) (table : List (Option Visible)) (entity : Entity) → AreKept (entity ∷ entities) table
    → entity.symbol.0 < length table
kept_within entities table entity kept = grind (arith, common_steps, kept.visible entity.symbol.0, here entity entities)
