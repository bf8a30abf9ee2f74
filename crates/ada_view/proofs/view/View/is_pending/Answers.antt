use Rattle.ada_view.proofs.Pending.{holding_event, pending_told}
use Rattle.ada_view.proofs.view.View.is_pending.Goals as goal

pub returns-clause-pending : goal.returns-clause-pending
returns-clause-pending c =
    let (event, stands, holds) = holding_event _ c.args.by.0 c.requires in
    pending_told c.args.self.now c.args.by.0 c.record.result.suspension.at c.args.at event c.record.ensures.lawful
    c.record.ensures.right.suspension.at stands holds
