use Rattle.ada_search.proofs.Steps.{begun}
use Rattle.ada_search.proofs.check.Check.begin_at.Goals as goal

pub returns-then-branch : goal.returns-then-branch
returns-then-branch g c =
    begun _ _ _ c.cover.new.states c.args.start.now c.in_ok-schedule.schedule _ c.in_ok-schedule.ensures c.in_ok-standing.ensures
    (c.in_ok-cover.ensures c.if-branch.true)
