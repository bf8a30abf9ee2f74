use Rattle.std.proofs.Common.{◌∙◌}
use Rattle.ada_records.proofs.recording.Queries.{records_tell}
use Rattle.ada_view.proofs.Knowing.{told}
use Rattle.ada_view.proofs.queries.callable.Goals as goal

pub returns : goal.returns
returns c =
    let known = c.in_ok-kept.ensures in
    told _ _ _ known.0 (c.is_callable.ensures ∙ (records_tell c.args.view.now c.args.task.0 c.in_ok-kept.kept known.1).callable)
