use Rattle.std.proofs.Common.{◌∙◌}
use Rattle.ada_waiting.proofs.Kept.{by_record, unknown_reason}
use Rattle.ada_waiting.proofs.reasons.reason_in.Goals as goal

pub returns-in-Some : goal.returns-in-Some
returns-in-Some c =
    let known = c.in-Some.ensures in
    c.kept_reason.ensures ∙ by_record c.args.kernel.now c.args.task.0 c.in-Some.kept c.journal-journal.ensures.lawful known.0 known.1

pub returns-in-None : goal.returns-in-None
returns-in-None c = unknown_reason c.args.kernel.now c.args.task.0 c.in-None.ensures
