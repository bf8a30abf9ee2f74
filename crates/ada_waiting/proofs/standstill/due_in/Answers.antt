use Rattle.std.proofs.Common.{◌∙◌}
use Rattle.ada_waiting.proofs.Kept.{due_by_record, unknown_due}
use Rattle.ada_waiting.proofs.standstill.due_in.Goals as goal

pub returns-in-Some : goal.returns-in-Some
returns-in-Some c =
    c.kept_due.ensures ∙ due_by_record c.args.kernel.now c.args.task.0 c.in-Some.kept c.journal-journal.ensures.lawful c.in-Some.ensures.1

pub returns-in-None : goal.returns-in-None
returns-in-None c = unknown_due c.args.kernel.now c.args.task.0 c.journal-journal.ensures.lawful c.in-None.ensures
