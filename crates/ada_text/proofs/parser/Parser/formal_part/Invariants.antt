use Rattle.std.proofs.Common.{◌≤◌}
use Rattle.ada_text.proofs.parser.Parser.formal_part.Given as goal

abbrev pub invariant-parameters : goal.invariant-parameters
invariant-parameters l = l.self ≤ l.fn.self

abbrev pub decreases-parameters : goal.decreases-parameters
decreases-parameters l = l.self
