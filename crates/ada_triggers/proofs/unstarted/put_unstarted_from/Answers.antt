use Rattle.std.proofs.Common.{◌∙◌, ◌≤◌, subst}
use Rattle.ada_events.specs.Tasks.{task_count}
use Rattle.ada_triggers.specs.internal.Keys.{AsUnstarted}
use Rattle.ada_triggers.proofs.Putting.{puts_more, puts_all}
use Rattle.ada_triggers.proofs.Starts.{none_below}
use Rattle.ada_triggers.proofs.unstarted.put_unstarted_from.Goals as goal

pub loop-number-init : goal.loop-number-init
loop-number-init c = none_below c.args.view.now c.args.agenda.now c.args.from c.requires

pub loop-number-preserved : goal.loop-number-preserved
loop-number-preserved c =
    puts_more c.args.agenda.now c.loop-number.agenda c.put_unstarted.new.agenda (AsUnstarted c.args.view.now) c.loop-number.number c.loop-number.invariant
    c.put_unstarted.ensures

pub returns-clause-put : goal.returns-clause-put
returns-clause-put c =
    puts_all c.args.agenda.now c.loop-number.agenda (AsUnstarted c.args.view.now) c.loop-number.number (task_count c.args.view.now) c.loop-number.invariant
    (subst (λ n. n ≤ c.loop-number.number) (c.tasks-number-end.ensures.value ∙ c.tables.ensures.stand.many) c.loop-number-test.false)
