use Rattle.std.proofs.Common.{◌∙◌, sym}
use Rattle.ada_view.proofs.Orphans.{gone_stays, live_goes, alone_or, else_or}
use Rattle.ada_view.proofs.view.View.is_to_go.Goals as goal

pub returns-then-record : goal.returns-then-record
returns-then-record c = gone_stays c.args.self.now c.args.task.0 (sym c.record.ensures.right.stage.terminated ∙ c.if-record.true)

pub returns-then-is_left_alone : goal.returns-then-is_left_alone
returns-then-is_left_alone c =
    c.is_left_alone.ensures ∙ alone_or _ _ (sym c.is_left_alone.ensures ∙ c.if-is_left_alone.true)
    ∙ live_goes c.args.self.now c.args.task (sym c.record.ensures.right.stage.terminated ∙ c.if-record.false)

pub returns-else-is_left_alone : goal.returns-else-is_left_alone
returns-else-is_left_alone c =
    c.is_abandoned.ensures ∙ else_or _ _ (sym c.is_left_alone.ensures ∙ c.if-is_left_alone.false)
    ∙ live_goes c.args.self.now c.args.task (sym c.record.ensures.right.stage.terminated ∙ c.if-record.false)
