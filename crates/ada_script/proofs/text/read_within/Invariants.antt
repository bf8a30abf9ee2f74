use Rattle.std.proofs.Common.{◌≡◌, ◌≤◌, ◌+◌, List, [], length}
use Rattle.ada_statements.specs.declared.fault.ScriptFault.{ScriptFault}
use Rattle.ada_script.specs.declared.script.Line.{Line}
use Rattle.ada_statements.specs.Text.{lines_of}
use Rattle.ada_script.specs.Script.{AddsLines, Stops, scope_of}
use Rattle.ada_script.proofs.text.read_within.Given as goal

abbrev pub invariant-loop-line : goal.invariant-loop-line
invariant-loop-line l = record {
  fits : l.number ≤ l.most + 1;
  known : l.names ≡ scope_of l.lines.items;
  reads : (all : List Line) → AddsLines l.most l.lines.items l.number l.rest all → AddsLines l.most [] 1 (lines_of l.text) all;
  stops : (fault : ScriptFault) → Stops l.most l.lines.items l.number l.rest fault → Stops l.most [] 1 (lines_of l.text) fault;
}

abbrev pub decreases-loop-line : goal.decreases-loop-line
decreases-loop-line l = length l.rest
