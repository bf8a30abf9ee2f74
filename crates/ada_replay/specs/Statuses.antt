-- The exit status of a run.
use Rattle.std.specs.Prelude.{ℕ, Result, Ok, Err}
use Rattle.ada_replay.specs.declared.fault.Ending.{Ending}
use Rattle.ada_replay.specs.declared.fault.Ending.TheVariants.{Finished, Unfinished}
use Rattle.ada_replay.specs.declared.fault.RunFault.{RunFault}
use Rattle.ada_replay.specs.declared.fault.RunFault.TheVariants.{Script, TooManyTasks}

-- 4 where memory, the input, the output or threads were refused
abbrev pub status : Result Ending RunFault → ℕ
status (Ok Finished) = 0
status (Ok Unfinished) = 3
status (Err (Script _)) = 1
status (Err TooManyTasks) = 1
status (Err _) = 4
