-- The cause that a fault of a line's words is, or want of memory.
use Rattle.ada_statements.specs.declared.fault.Cause.{Cause}
use Rattle.ada_statements.specs.declared.fault.Cause.TheVariants as causes
use Rattle.ada_script.specs.declared.fault.Fault.{Fault}
use Rattle.ada_script.specs.declared.fault.Fault.TheVariants.{BadStatement, BadNumber, UnknownName, DoubleName, OutOfMemory}

abbrev pub cause_of : Fault → Cause
cause_of BadStatement = causes.BadStatement
cause_of BadNumber = causes.BadNumber
cause_of UnknownName = causes.UnknownName
cause_of DoubleName = causes.DoubleName
cause_of OutOfMemory = causes.OutOfMemory
