use Rattle.std.proofs.Common.{◌≤◌}
use Rattle.ada_text.proofs.parser.Parser.pragmas.Given as goal

abbrev pub invariant-pragmas : goal.invariant-pragmas
invariant-pragmas l = l.self ≤ l.fn.self

abbrev pub decreases-pragmas : goal.decreases-pragmas
decreases-pragmas l = l.self
