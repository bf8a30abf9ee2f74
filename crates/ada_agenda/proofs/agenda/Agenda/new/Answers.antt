use Rattle.std.proofs.Common.{arith, length, ◌∷◌, [], ap, ◌∙◌}
use Rattle.std.proofs.lemmas.List.{length-append}
use Rattle.ada_agenda.proofs.RowsHeld.{none_beyond, none_with, none_filled}
use Rattle.ada_agenda.proofs.agenda.Agenda.new.Goals as goal

pub loop-init : goal.loop-init
loop-init c = (
  ap length c.in_ok-sets.ensures.items,
  λ row k. rw c.in_ok-sets.ensures.items (none_beyond [] row k (omega arith)),
)

pub loop-preserved : goal.loop-preserved
loop-preserved c = (
  ap length c.in_ok-push.ensures.items ∙ length-append c.loop.sets.items (c.in_ok-new.field-0 ∷ []) ∙ omega (arith, c.loop.invariant.0),
  λ row k. rw c.in_ok-push.ensures.items (none_with c.loop.sets.items c.in_ok-new.field-0 c.loop.invariant.1 c.in_ok-new.ensures row k),
)

pub invariant_of-result : goal.invariant_of-result
invariant_of-result c =
    none_filled c.loop.sets.items (omega (arith, c.loop.invariant.0, c.loop-test.false, c.loop.auto.counter-end)) c.loop.invariant.1
