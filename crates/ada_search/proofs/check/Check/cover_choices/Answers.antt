use Rattle.ada_search.proofs.Steps.{one_more_choice}
use Rattle.ada_search.proofs.check.Check.cover_choices.Goals as goal

pub loop-choice-preserved : goal.loop-choice-preserved
loop-choice-preserved g c =
    one_more_choice _ _ _ _ _ _ _ c.loop-choice.choice-index c.choice-item.result c.loop-choice-test.true c.choice-item.is c.loop-choice.invariant
    (c.in_ok-cover_choice.ensures c.if-not-branch.false)
