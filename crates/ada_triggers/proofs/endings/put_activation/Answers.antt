use Rattle.std.proofs.Common.{◌∙◌, sym}
use Rattle.ada_triggers.proofs.Ends.{done_before}
use Rattle.ada_triggers.proofs.endings.put_activation.Goals as goal

pub returns-else-not-is_done_activating : goal.returns-else-not-is_done_activating
returns-else-not-is_done_activating c =
    done_before c.args.view.now c.args.agenda.now c.args.task
    (sym c.is_done_activating.ensures ∙ c.if-not-is_done_activating.false)
