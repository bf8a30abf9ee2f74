-- How a count of live dependents changes.
use Rattle.std.specs.Prelude.{ℕ, ◌+◌, ◌-◌, min}
use Rattle.ada_tables.specs.declared.change.Change.{Change}
use Rattle.ada_tables.specs.declared.change.Change.TheVariants.{Added, Ended}

-- a count after a dependent was added or ended. It fits 16 bits, which no count fills
abbrev pub changed : Change → ℕ → ℕ
changed Added count = min (count + 1) 65535
changed Ended count = count - 1
