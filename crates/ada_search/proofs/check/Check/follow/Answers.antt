use Rattle.std.proofs.Common.{◌∙◌}
use Rattle.ada_search.proofs.Steps.{begins, goes_on}
use Rattle.ada_search.proofs.check.Check.follow.Goals as goal

pub loop-choice-init : goal.loop-choice-init
loop-choice-init g c = begins _ _ (c.in_ok-standing.ensures ∙ c.args.self.now.begun)

pub loop-choice-preserved : goal.loop-choice-preserved
loop-choice-preserved g c =
    goes_on _ c.args.path.now c.loop-choice.choice-index c.choice-item.result _ _ c.loop-choice-test.true c.choice-item.is c.loop-choice.invariant
    c.in_ok-take.ensures
