use Rattle.std.proofs.Common.{◌∙◌, ◌+◌, ◌≤◌, sym, subst, w64}
use Rattle.std.proofs.lemmas.Int.{to_z-of_z}
use Rattle.ada_events.specs.Tasks.{task_count}
use Rattle.ada_triggers.specs.internal.Bounds.{IsBoundOfFirst}
use Rattle.ada_triggers.specs.internal.Keys.{AsDue}
use Rattle.ada_triggers.proofs.Bounds.{first_none, first_more, first_all}
use Rattle.ada_triggers.proofs.Putting.{puts_none, puts_more, puts_all}
use Rattle.ada_triggers.proofs.moments.put_all_due.Goals as goal

pub loop-number-init : goal.loop-number-init
loop-number-init c = (puts_none c.args.agenda.now (AsDue c.args.view.now c.args.tick.now), first_none c.args.view.now _ _)

pub loop-number-preserved : goal.loop-number-preserved
loop-number-preserved c = (
  puts_more c.args.agenda.now c.loop-number.agenda c.put_due-later.new.agenda (AsDue c.args.view.now c.args.tick.now) c.loop-number.number
      c.loop-number.invariant.0 c.put_due-later.ensures.put,
  subst (IsBoundOfFirst c.args.view.now _ (c.loop-number.number + 1)) (sym c.with-next.ensures)
      (first_more c.args.view.now _ c.loop-number.number c.loop-number.next c.put_due-later.result c.loop-number.invariant.1 c.put_due-later.ensures.later),
)

pub returns-clause-put : goal.returns-clause-put
returns-clause-put c =
    puts_all c.args.agenda.now c.loop-number.agenda (AsDue c.args.view.now c.args.tick.now) c.loop-number.number (task_count c.args.view.now)
    c.loop-number.invariant.0
    (subst (λ n. n ≤ c.loop-number.number) (c.tasks-number-end.ensures.value ∙ c.tables.ensures.stand.many) c.loop-number-test.false)

pub returns-clause-next : goal.returns-clause-next
returns-clause-next c =
    subst (λ now. IsBoundOfFirst c.args.view.now now (task_count c.args.view.now) c.loop-number.next) (to_z-of_z w64 c.args.now c.ranges.now)
    (first_all c.args.view.now _ c.loop-number.number (task_count c.args.view.now) c.loop-number.next c.loop-number.invariant.1
    (subst (λ n. n ≤ c.loop-number.number) (c.tasks-number-end.ensures.value ∙ c.tables.ensures.stand.many) c.loop-number-test.false))
