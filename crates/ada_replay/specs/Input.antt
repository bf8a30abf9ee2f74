-- What is read of an input.
use Rattle.std.specs.Prelude.{◌≡◌, ◌≤◌, ◌⊎◌, ℕ, Option, List, length, take}
use Rattle.std.specs.Io.KnownBytes.{Consumes}
use Rattle.ada_replay.specs.declared.fault.RunFault.{RunFault}
use Rattle.ada_replay.specs.declared.fault.RunFault.TheVariants.{Memory, Read}

-- the most bytes that a script has: 4,096 lines of 200 bytes and a line feed, and one byte more, with
-- which it is none
abbrev pub most_bytes : ℕ
most_bytes = 823297

-- the part of an input that is read
abbrev pub text_of : List ℕ → List ℕ
text_of bytes = take most_bytes bytes

-- memory was refused, or the input
abbrev pub IsInputFault : RunFault → Type 0
IsInputFault fault = (fault ≡ Memory) ⊎ (fault ≡ Read)

-- no more than so many bytes were taken of the input
abbrev pub TakesAtMost : ℕ → Option (List ℕ) → Option (List ℕ) → Type 0
TakesAtMost most before after = (bytes : List ℕ) × Consumes before after bytes × (length bytes ≤ most)
