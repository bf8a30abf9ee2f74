-- What the plain program reads of slots and their entries.
use Rattle.std.specs.Prelude.{ℕ, ◌-◌, ◌^◌, min}
use Rattle.ada_events.specs.Slots.{Place}
use Rattle.ada_reference.specs.declared.slots.TaskEntry.{TaskEntry}

-- a number, or 2^64 - 1 where it is larger
abbrev pub capped : ℕ → ℕ
capped n = min n (2 ^ 64 - 1)

-- the entry of a task as the definitions see it
abbrev pub place_seen : TaskEntry → Place
place_seen p = record { task = p.task; entry = p.entry }
