use Rattle.std.proofs.Common.{◌≤◌}
use Rattle.ada_text.proofs.parser.Parser.context_clause.Given as goal

abbrev pub invariant-clauses : goal.invariant-clauses
invariant-clauses l = l.self ≤ l.fn.self

abbrev pub decreases-clauses : goal.decreases-clauses
decreases-clauses l = l.self
