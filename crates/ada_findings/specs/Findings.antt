-- What is found in a text that is checked.
use Rattle.std.specs.Prelude.{ℕ, List}
use Rattle.ada_statements.specs.declared.fault.ScriptFault.{ScriptFault}
use Rattle.ada_script.specs.declared.script.Line.{Line}
use Rattle.ada_script.specs.Script.{IsScript, IsFirstFault}
use Rattle.ada_findings.specs.declared.fault.Finding.{Finding}
use Rattle.ada_findings.specs.declared.fault.Finding.TheVariants.{Nothing, Faulty}

-- nothing if it is a script, a faulty line if one is the first that isn't acceptable
abbrev pub IsFoundIn : List ℕ → Finding → Type 0
IsFoundIn text Nothing = (lines : List Line) × IsScript text lines
IsFoundIn text Faulty = (fault : ScriptFault) × IsFirstFault text fault
IsFoundIn text _ = ⊥
