use Rattle.std.proofs.Common.{◌+◌, ◌*◌, ◌<◌}
use Rattle.ada_text.proofs.parser.Parser.+expression.Given as goal

abbrev pub decreases-enclosed : goal.decreases-enclosed
decreases-enclosed l = 10 * l.depth + 0

abbrev pub decreases-name : goal.decreases-name
decreases-name l = 10 * l.depth + 1

abbrev pub decreases-primary : goal.decreases-primary
decreases-primary l = 10 * l.depth + 2

abbrev pub decreases-factor : goal.decreases-factor
decreases-factor l = 10 * l.depth + 3

abbrev pub decreases-term : goal.decreases-term
decreases-term l = 10 * l.depth + 4

abbrev pub decreases-simple_expression : goal.decreases-simple_expression
decreases-simple_expression l = 10 * l.depth + 5

abbrev pub decreases-range : goal.decreases-range
decreases-range l = 10 * l.depth + 6

abbrev pub decreases-relation : goal.decreases-relation
decreases-relation l = 10 * l.depth + 7

abbrev pub decreases-expression : goal.decreases-expression
decreases-expression l = 10 * l.depth + 8

abbrev pub decreases-choice : goal.decreases-choice
decreases-choice l = 10 * l.depth + 9

abbrev pub invariant-expression-relations : goal.invariant-expression-relations
invariant-expression-relations l = l.self < l.fn.self

abbrev pub decreases-expression-relations : goal.decreases-expression-relations
decreases-expression-relations l = l.self

abbrev pub invariant-simple_expression-terms : goal.invariant-simple_expression-terms
invariant-simple_expression-terms l = l.self < l.fn.self

abbrev pub decreases-simple_expression-terms : goal.decreases-simple_expression-terms
decreases-simple_expression-terms l = l.self

abbrev pub invariant-term-factors : goal.invariant-term-factors
invariant-term-factors l = l.self < l.fn.self

abbrev pub decreases-term-factors : goal.decreases-term-factors
decreases-term-factors l = l.self

abbrev pub invariant-name-suffixes : goal.invariant-name-suffixes
invariant-name-suffixes l = l.self < l.fn.self

abbrev pub decreases-name-suffixes : goal.decreases-name-suffixes
decreases-name-suffixes l = l.self

abbrev pub invariant-enclosed-components : goal.invariant-enclosed-components
invariant-enclosed-components l = l.self < l.fn.self

abbrev pub decreases-enclosed-components : goal.decreases-enclosed-components
decreases-enclosed-components l = l.self
