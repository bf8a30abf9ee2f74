use Rattle.std.proofs.Common.{◌≤◌}
use Rattle.ada_text.proofs.parser.Parser.choices.Given as goal

abbrev pub invariant-choices : goal.invariant-choices
invariant-choices l = l.self ≤ l.fn.self

abbrev pub decreases-choices : goal.decreases-choices
decreases-choices l = l.self
