use Rattle.std.proofs.Common.{[]}
use Rattle.ada_statements.specs.Text.{lines_of}
use Rattle.ada_script.specs.Script.{most_lines}
use Rattle.ada_script.proofs.Once.{stops_once}
use Rattle.ada_script.proofs.laws.one_fault.Goals as goal

pub returns : goal.returns
returns c = λ text fault other first second. stops_once most_lines [] 1 (lines_of text) fault other first second
