-- Names that last: what has them in the present journal.
use Rattle.std.specs.Prelude.{◌≡◌, ℕ, ◌+◌, ◌-◌, ◌==◌, nat_lt, nat_le, if◌then◌else◌, Option, Some, None, List, [], ◌∷◌}
use Rattle.ada_lasting.specs.declared.rows.Row.{Row}
use Rattle.ada_standing.specs.Renaming.{Renaming}

-- what has the lasting name in the present journal, by the first row that tells
unfoldable pub found : List Row → ℕ → Option ℕ
found [] lasting = None
found (row ∷ rest) lasting = if row.lasting == lasting then Some row.present else found rest lasting

-- what is kept of names that last: the tasks that may still be named, and the positions that were before the present
-- journal; how many tasks were made ever; how long the lasting journal was and how long the present one was when the
-- present one took its place; how long the present one is now
pub record Naming : Type 0 where
  pub tasks : List Row
  pub places : List Row
  pub made : ℕ
  pub since : ℕ
  pub from : ℕ
  pub until : ℕ

-- how long the lasting journal is
abbrev pub length_of : Naming → ℕ
length_of names = names.since + (names.until - names.from)

-- what has a lasting position in the present journal: each that came after that took its place follows there too, and
-- of those before only some are left
abbrev pub position_of : Naming → ℕ → Option ℕ
position_of names position =
    if nat_lt names.since position
    then (if nat_le (position - names.since) (names.until - names.from) then Some (names.from + (position - names.since)) else None)
    else found names.places position

-- what has lasting names in the present journal
abbrev pub renaming_of : Naming → Renaming
renaming_of names = record { task = found names.tasks; position = position_of names }

-- no two names of tasks, and no two of positions, lead to the same
pub record AreOneToOne (names : Naming) : Type 0 where
  pub tasks : (s t v : ℕ) → found names.tasks s ≡ Some v → found names.tasks t ≡ Some v → s ≡ t
  pub positions : (p q a : ℕ) → position_of names p ≡ Some a → position_of names q ≡ Some a → p ≡ q
