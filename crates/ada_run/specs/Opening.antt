-- Why a hall isn't opened.
use Rattle.std.specs.Prelude.{◌≡◌, ◌⊎◌}
use Rattle.ada_replay.specs.declared.fault.RunFault.{RunFault}
use Rattle.ada_replay.specs.declared.fault.RunFault.TheVariants.{Memory, Threads}

-- memory was refused, or a place for a thread
abbrev pub IsOpeningFault : RunFault → Type 0
IsOpeningFault fault = (fault ≡ Memory) ⊎ (fault ≡ Threads)
