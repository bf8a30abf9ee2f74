use Rattle.std.proofs.Common.{◌∙◌}
use Rattle.ada_view.proofs.Deciding.{queued_told}
use Rattle.ada_view.proofs.Pending.{holding_event}
use Rattle.ada_view.proofs.view.View.is_queued.Goals as goal

pub returns : goal.returns
returns c =
    let (event, stands, holds) = holding_event _ c.args.by.0 c.requires in
    c.is_queued_by.ensures ∙ queued_told c.args.self.now c.args.by.0 c.args.at c.record-kept.result event c.record-kept.ensures.lawful
    c.record-kept.ensures.right stands holds
