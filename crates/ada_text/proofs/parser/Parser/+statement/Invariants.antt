use Rattle.std.proofs.Common.{◌+◌, ◌*◌, ◌<◌, ◌≤◌}
use Rattle.ada_text.proofs.parser.Parser.+statement.Given as goal

abbrev pub decreases-statements : goal.decreases-statements
decreases-statements l = 4 * l.depth + 0

abbrev pub decreases-unit : goal.decreases-unit
decreases-unit l = 4 * l.depth + 0

abbrev pub decreases-alternatives : goal.decreases-alternatives
decreases-alternatives l = 4 * l.depth + 1

abbrev pub decreases-if_statement : goal.decreases-if_statement
decreases-if_statement l = 4 * l.depth + 1

abbrev pub decreases-loop_statement : goal.decreases-loop_statement
decreases-loop_statement l = 4 * l.depth + 1

abbrev pub decreases-accept_statement : goal.decreases-accept_statement
decreases-accept_statement l = 4 * l.depth + 1

abbrev pub decreases-select_statement : goal.decreases-select_statement
decreases-select_statement l = 4 * l.depth + 1

abbrev pub decreases-declarative_part : goal.decreases-declarative_part
decreases-declarative_part l = 4 * l.depth + 1

abbrev pub decreases-body : goal.decreases-body
decreases-body l = 4 * l.depth + 2

abbrev pub decreases-statement : goal.decreases-statement
decreases-statement l = 4 * l.depth + 3

abbrev pub invariant-statements-statements : goal.invariant-statements-statements
invariant-statements-statements l = l.self < l.fn.self

abbrev pub decreases-statements-statements : goal.decreases-statements-statements
decreases-statements-statements l = l.self

abbrev pub invariant-if_statement-arms : goal.invariant-if_statement-arms
invariant-if_statement-arms l = l.self < l.fn.self

abbrev pub decreases-if_statement-arms : goal.decreases-if_statement-arms
decreases-if_statement-arms l = l.self

abbrev pub invariant-alternatives-alternatives : goal.invariant-alternatives-alternatives
invariant-alternatives-alternatives l = l.self < l.fn.self

abbrev pub decreases-alternatives-alternatives : goal.decreases-alternatives-alternatives
decreases-alternatives-alternatives l = l.self

abbrev pub invariant-select_statement-alternatives : goal.invariant-select_statement-alternatives
invariant-select_statement-alternatives l = l.self < l.fn.self

abbrev pub decreases-select_statement-alternatives : goal.decreases-select_statement-alternatives
decreases-select_statement-alternatives l = l.self

abbrev pub invariant-declarative_part-declarations : goal.invariant-declarative_part-declarations
invariant-declarative_part-declarations l = l.self ≤ l.fn.self

abbrev pub decreases-declarative_part-declarations : goal.decreases-declarative_part-declarations
decreases-declarative_part-declarations l = l.self
