use Rattle.std.proofs.Common.{◌∙◌, ◌<◌, not, sym, ap, arith}
use Rattle.std.proofs.lemmas.Bool.{eqb-true}
use Rattle.ada_events.specs.Tasks.{task_count}
use Rattle.ada_triggers.proofs.Uncallable.{open_callee, waits_somewhere}
use Rattle.ada_triggers.proofs.sweeps.may_be_called.Goals as goal
use Rattle.ada_triggers.proofs.sweeps.may_be_called.Goals.{then-is_empty, else-is_empty}

pub returns-after-is_empty-clause-open : goal.returns-after-is_empty-clause-open
returns-after-is_empty-clause-open c = λ p of.
    elim c.if-is_empty.branch [
      | then-is_empty w ↦
          ap not
          (w.result-is
          ∙ waits_somewhere c.tables-tables.result.now c.args.view.now c.args.callee.0 p c.nest.result.now w.has_no_calls.result c.tables-tables.ensures.lawful
          c.tables-tables.ensures.stand of c.nest.ensures (eqb-true _ 0 (sym c.is_empty.ensures ∙ w.if-is_empty.true)) w.has_no_calls.ensures)
      | else-is_empty w ↦ ap not (w.result-is ∙ w.if-is_empty.false)
    ]

pub returns-else-callee-tasks-clause-open : goal.returns-else-callee-tasks-clause-open
returns-else-callee-tasks-clause-open c = λ p of.
    let below : c.args.callee.0 < task_count c.args.view.now = open_callee c.args.view.now c.args.callee.0 p c.tables-tables.ensures.lawful of in
    absurd (omega (arith, below, c.if-callee-tasks.false, c.tasks.ensures.value, c.tables-tables.ensures.stand.many))
