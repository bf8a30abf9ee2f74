use Rattle.std.proofs.Common.{◌≤◌}
use Rattle.ada_text.proofs.parser.Parser.enumeration.Given as goal

abbrev pub invariant-literals : goal.invariant-literals
invariant-literals l = l.self ≤ l.fn.self

abbrev pub decreases-literals : goal.decreases-literals
decreases-literals l = l.self
