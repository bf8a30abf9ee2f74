use Rattle.std.proofs.Common.{◌+◌, ◌*◌}
use Rattle.ada_text_tests.proofs.shapes.+expression.Given as goal

abbrev pub decreases-write_expression : goal.decreases-write_expression
decreases-write_expression l = 4 * l.depth + 0

abbrev pub decreases-write_pair : goal.decreases-write_pair
decreases-write_pair l = 4 * l.depth + 1

abbrev pub decreases-write_choices : goal.decreases-write_choices
decreases-write_choices l = 4 * l.depth + 1

abbrev pub decreases-write_associations : goal.decreases-write_associations
decreases-write_associations l = 4 * l.depth + 2
