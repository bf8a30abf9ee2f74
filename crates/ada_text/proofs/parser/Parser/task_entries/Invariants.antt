use Rattle.std.proofs.Common.{◌≤◌}
use Rattle.ada_text.proofs.parser.Parser.task_entries.Given as goal

abbrev pub invariant-entries : goal.invariant-entries
invariant-entries l = l.self ≤ l.fn.self

abbrev pub decreases-entries : goal.decreases-entries
decreases-entries l = l.self
