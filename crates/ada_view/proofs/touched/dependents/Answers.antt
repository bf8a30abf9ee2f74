use Rattle.std.proofs.Common.{◌∙◌, sym, refl, arith}
use Rattle.ada_events.specs.Masters.{depends_on}
use Rattle.ada_view.proofs.Listing.{lists_none, lists_more, lists_past, lists_all}
use Rattle.ada_view.proofs.touched.dependents.Goals as goal
use Rattle.ada_view.proofs.touched.dependents.Goals.{then-is_dependent, else-is_dependent}

pub loop-number-init : goal.loop-number-init
loop-number-init c = rw c.new-dependents.ensures (lists_none c.args.view.now (λ task. depends_on c.args.view.now task c.args.master))

pub loop-number-preserved : goal.loop-number-preserved
loop-number-preserved c =
    elim c.if-is_dependent.branch [
      | then-is_dependent w ↦
          rw (w.dependents-is, w.push.ensures)
          (lists_more c.args.view.now c.loop-number.dependents (λ task. depends_on c.args.view.now task c.args.master) c.loop-number.number
          (record { 0 = c.loop-number.number }) refl c.loop-number.invariant (λ live. sym w.if-is_dependent.true ∙ c.is_dependent.ensures live))
      | else-is_dependent w ↦
          rw w.dependents-is
          (lists_past c.args.view.now c.loop-number.dependents (λ task. depends_on c.args.view.now task c.args.master) c.loop-number.number
          c.loop-number.invariant (λ live. sym w.if-is_dependent.false ∙ c.is_dependent.ensures live))
    ]

pub returns : goal.returns
returns c =
    lists_all c.args.view.now c.loop-number.dependents (λ task. depends_on c.args.view.now task c.args.master) c.loop-number.number c.loop-number.invariant
    (omega (arith, c.loop-number-test.false, c.loop-number.auto.number-end, c.tasks-number-end.ensures.value, c.tables.ensures.stand.many))
