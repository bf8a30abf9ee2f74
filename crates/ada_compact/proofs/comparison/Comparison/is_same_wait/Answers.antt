use Rattle.std.proofs.Common.{sym}
use Rattle.ada_compact.proofs.Holding.{same_waits}
use Rattle.ada_compact.proofs.comparison.Comparison.is_same_wait.Goals as goal

pub returns-else-not-are_same_choices : goal.returns-else-not-are_same_choices
returns-else-not-are_same_choices c = λ same.
    same_waits _ _ _ c.args.at c.args.to _ _ _ _ _ _ _ _ _ _ c.in-Waiting-Waiting.is-0 c.in-Waiting-Waiting.is-1 (sym c.if-pick-other.false)
    (c.are_same_choices.ensures c.if-not-are_same_choices.false) (c.is_same_tail.ensures same)
