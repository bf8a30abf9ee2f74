-- From which number on tasks of the present journal stand for those from a lasting number on.
use Rattle.std.specs.Prelude.{ℕ, nat_le, if◌then◌else◌, Option, Some, None, List, [], ◌∷◌}
use Rattle.std.specs.Option.{option_and_then, unwrap_or}
use Rattle.ada_lasting.specs.declared.rows.Row.{Row}
use Rattle.ada_lasting.specs.Naming.{found}

-- the first lasting name that is this number or more
unfoldable pub first_name : List Row → ℕ → Option ℕ
first_name [] from = None
first_name (row ∷ rest) from = if nat_le from row.lasting then Some row.lasting else first_name rest from

-- what has that name in the present journal; if there is none, how many tasks that has
abbrev pub first_there : List Row → ℕ → ℕ → ℕ
first_there rows from tasks = unwrap_or (option_and_then (found rows) (first_name rows from)) tasks
