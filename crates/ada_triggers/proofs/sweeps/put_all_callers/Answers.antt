use Rattle.std.proofs.Common.{◌∙◌, ◌≤◌, subst}
use Rattle.ada_events.specs.Tasks.{task_count}
use Rattle.ada_triggers.specs.internal.Keys.{AsCaller, is_that}
use Rattle.ada_triggers.proofs.Putting.{puts_none, puts_more, puts_all}
use Rattle.ada_triggers.proofs.sweeps.put_all_callers.Goals as goal

pub loop-number-init : goal.loop-number-init
loop-number-init c = puts_none c.args.agenda.now (AsCaller c.args.view.now (is_that c.args.callee.0))

pub loop-number-preserved : goal.loop-number-preserved
loop-number-preserved c =
    puts_more c.args.agenda.now c.loop-number.agenda c.put_caller.new.agenda (AsCaller c.args.view.now (is_that c.args.callee.0)) c.loop-number.number
    c.loop-number.invariant c.put_caller.ensures

pub returns : goal.returns
returns c =
    puts_all c.args.agenda.now c.loop-number.agenda (AsCaller c.args.view.now (is_that c.args.callee.0)) c.loop-number.number (task_count c.args.view.now)
    c.loop-number.invariant
    (subst (λ n. n ≤ c.loop-number.number) (c.tasks-number-end.ensures.value ∙ c.tables.ensures.stand.many) c.loop-number-test.false)
