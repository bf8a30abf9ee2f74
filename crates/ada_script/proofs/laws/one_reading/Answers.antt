use Rattle.std.proofs.Common.{[]}
use Rattle.ada_statements.specs.Text.{lines_of}
use Rattle.ada_script.specs.Script.{most_lines}
use Rattle.ada_script.proofs.Once.{reads_once}
use Rattle.ada_script.proofs.laws.one_reading.Goals as goal

pub returns : goal.returns
returns c = λ text lines others first second. reads_once most_lines [] 1 (lines_of text) lines others first second
