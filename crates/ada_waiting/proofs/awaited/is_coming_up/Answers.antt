use Rattle.std.proofs.Common.{not, ap, sym, ◌∙◌}
use Rattle.ada_records.proofs.recording.Queries.{records_tell}
use Rattle.ada_waiting.proofs.awaited.is_coming_up.Goals as goal

pub returns-then-not-kept : goal.returns-then-not-kept
returns-then-not-kept c =
    let right = c.record-kept.ensures.right in
    let elaborated = sym right.stage.elaborated ∙ c.if-not-kept.true in
    rw elaborated (ap not (c.has_ended.ensures ∙ (records_tell c.args.view.now c.args.task.0 c.record-kept.result right).ended))
