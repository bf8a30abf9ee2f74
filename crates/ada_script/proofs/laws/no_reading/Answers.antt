use Rattle.std.proofs.Common.{[]}
use Rattle.ada_statements.specs.Text.{lines_of}
use Rattle.ada_script.specs.Script.{most_lines}
use Rattle.ada_script.proofs.Once.{stops_unread}
use Rattle.ada_script.proofs.laws.no_reading.Goals as goal

pub returns : goal.returns
returns c = λ text fault lines stops reads. stops_unread most_lines [] 1 (lines_of text) fault lines stops reads
