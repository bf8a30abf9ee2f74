-- Keys that are put into an agenda.
use Rattle.std.specs.Prelude.{◌⊎◌, ℕ}
use Rattle.ada_step_laws.specs.declared.row.Row.{Row}

-- these keys and those
abbrev pub Both : (Row → ℕ → Type 0) → (Row → ℕ → Type 0) → Row → ℕ → Type 0
Both One Other row key = One row key ⊎ Other row key
