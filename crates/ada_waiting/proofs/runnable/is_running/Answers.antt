use Rattle.std.proofs.Common.{sym, ◌∙◌}
use Rattle.ada_waiting.proofs.Going.{told_none, unknown_idle}
use Rattle.ada_waiting.proofs.runnable.is_running.Goals as goal

pub returns-in-None : goal.returns-in-None
returns-in-None c =
    unknown_idle c.args.kernel.now c.args.task.0 c.journal-journal.ensures.lawful (told_none _ _ (sym c.running.ensures ∙ c.in-None.is))
