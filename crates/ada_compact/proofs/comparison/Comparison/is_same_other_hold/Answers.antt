use Rattle.std.proofs.Common.{rules}
use Rattle.ada_compact.proofs.Holding.{same_pauses, same_closes, same_starts}
use Rattle.ada_compact.proofs.comparison.Comparison.is_same_other_hold.Goals as goal

pub returns-in-Paused-Paused : goal.returns-in-Paused-Paused
returns-in-Paused-Paused c = λ same.
    same_pauses _ _ _ c.args.at c.args.to _ _ _ _ _ _ c.in-Paused-Paused.is-0 c.in-Paused-Paused.is-1 (search rules)

pub returns-in-Closed-Closed : goal.returns-in-Closed-Closed
returns-in-Closed-Closed c = λ same.
    same_closes _ _ _ c.args.at c.args.to _ _ _ _ _ _ c.in-Closed-Closed.is-0 c.in-Closed-Closed.is-1 (c.is_placed.ensures same)

pub returns-then-has_failure : goal.returns-then-has_failure
returns-then-has_failure c = λ same.
    same_starts _ _ _ c.args.at c.args.to _ _ _ _ _ _ c.in-Started-Started.is-0 c.in-Started-Started.is-1 (search rules) (search rules)
