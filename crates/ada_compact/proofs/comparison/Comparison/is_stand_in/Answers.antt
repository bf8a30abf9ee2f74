use Rattle.std.proofs.Common.{sym, ◌∙◌}
use Rattle.ada_compact.proofs.StandingIn.{terminated_stands, completed_stands}
use Rattle.ada_compact.proofs.comparison.Comparison.is_stand_in.Goals as goal

pub returns-then-stage : goal.returns-then-stage
returns-then-stage c = λ _.
    terminated_stands _ _ _ c.args.old.0 c.args.new.0 (c.is_same_task.ensures c.if-not-is_same_task.false)
    (sym c.record.ensures.right.stage.terminated ∙ c.if-stage.true)

pub returns-then-stage-2 : goal.returns-then-stage-2
returns-then-stage-2 c = λ over.
    completed_stands _ _ _ c.args.old.0 c.args.new.0 (c.is_same_task.ensures c.if-not-is_same_task.false)
    (c.is_same_dependent.ensures c.if-not-is_same_dependent.false) (c.is_same_nest.ensures c.if-not-is_same_nest.false)
    (sym c.record.ensures.right.stage.completed ∙ over)
