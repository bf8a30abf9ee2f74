use Rattle.std.proofs.Common.{sym, ◌∙◌}
use Rattle.ada_waiting.proofs.Going.{began_if_let_go}
use Rattle.ada_waiting.proofs.runnable.began_to_run.Goals as goal

pub returns-then-is_running : goal.returns-then-is_running
returns-then-is_running c =
    let events = c.as_slice-events.ensures.value ∙ c.journal.ensures.events in
    let runs = sym c.is_running.ensures ∙ c.if-is_running.true in
    rw (← began_if_let_go c.args.kernel.now c.args.task.0 c.journal.ensures.lawful, runs) (rw events at c.was_let_go.ensures)

pub returns-else-is_running : goal.returns-else-is_running
returns-else-is_running c =
    let idle = sym c.is_running.ensures ∙ c.if-is_running.false in
    rw (← began_if_let_go c.args.kernel.now c.args.task.0 c.journal.ensures.lawful, idle) c.if-is_running.false
