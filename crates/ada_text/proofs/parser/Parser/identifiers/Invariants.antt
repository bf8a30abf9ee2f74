use Rattle.std.proofs.Common.{◌≤◌}
use Rattle.ada_text.proofs.parser.Parser.identifiers.Given as goal

abbrev pub invariant-names : goal.invariant-names
invariant-names l = l.self ≤ l.fn.self

abbrev pub decreases-names : goal.decreases-names
decreases-names l = l.self
