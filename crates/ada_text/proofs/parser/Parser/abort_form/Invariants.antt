use Rattle.std.proofs.Common.{◌≤◌}
use Rattle.ada_text.proofs.parser.Parser.abort_form.Given as goal

abbrev pub invariant-tasks : goal.invariant-tasks
invariant-tasks l = l.self ≤ l.fn.self

abbrev pub decreases-tasks : goal.decreases-tasks
decreases-tasks l = l.self
