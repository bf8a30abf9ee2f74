-- The exit status of the second program.
use Rattle.std.specs.Prelude.{ℕ, Result, Ok, Err}
use Rattle.ada_replay.specs.declared.fault.RunFault.TheVariants.{Script}
use Rattle.ada_findings.specs.declared.fault.Failure.{Failure}
use Rattle.ada_findings.specs.declared.fault.Finding.{Finding}
use Rattle.ada_findings.specs.declared.fault.Finding.TheVariants.{Nothing, Faulty, Difference, Refused, NoLog, Standstill, Unknown}
use Rattle.ada_findings.specs.declared.fault.ScopeFault.{ScopeFault}
use Rattle.ada_findings.specs.declared.fault.ScopeFault.TheVariants.{Run, Compared, TooLong}

-- 4 where a file, memory, the input or the output was refused
abbrev pub fault_status : ScopeFault → ℕ
fault_status (Run (Script _)) = 1
fault_status (Compared _) = 2
fault_status TooLong = 2
fault_status _ = 4

abbrev pub status : Result Finding Failure → ℕ
status (Ok Nothing) = 0
status (Ok Faulty) = 1
status (Ok Difference) = 1
status (Ok Refused) = 1
status (Ok NoLog) = 2
status (Ok Standstill) = 3
status (Ok Unknown) = 5
status (Err failure) = fault_status failure.fault
