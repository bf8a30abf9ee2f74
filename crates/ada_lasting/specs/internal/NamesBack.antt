-- The lasting names of what is in the present journal.
use Rattle.std.specs.Prelude.{ℕ, ◌+◌, ◌-◌, ◌==◌, nat_lt, nat_le, if◌then◌else◌, Option, Some, None, List, [], ◌∷◌}
use Rattle.ada_lasting.specs.declared.rows.Row.{Row}
use Rattle.ada_lasting.specs.Naming.{Naming}

-- the lasting name by the first row that tells
unfoldable pub named_by : List Row → ℕ → Option ℕ
named_by [] present = None
named_by (row ∷ rest) present = if row.present == present then Some row.lasting else named_by rest present

-- the lasting position of what has this one in the present journal
abbrev pub lasting_of : Naming → ℕ → Option ℕ
lasting_of names position =
    if nat_lt names.from position
    then (if nat_le position names.until then Some (names.since + (position - names.from)) else None)
    else named_by names.places position
