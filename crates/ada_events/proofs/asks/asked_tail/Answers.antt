use Rattle.std.proofs.Common.{w64, ◌∙◌}
use Rattle.std.proofs.lemmas.Int.{to_z-of_z}
use Rattle.ada_events.proofs.Dues.{delays_due}
use Rattle.ada_events.proofs.asks.asked_tail.Goals as goal

pub returns-in_ok-new-in-Delays-clause-ok : goal.returns-in_ok-new-in-Delays-clause-ok
returns-in_ok-new-in-Delays-clause-ok c =
    delays_due c.args.now _ c.args.tail.now c.in-Delays.pauses c.as_slice.result.now c.in_ok-new-in-Delays.field-0
    (to_z-of_z w64 c.args.now c.ranges.now) c.as_slice.ensures.value c.in-Delays.is
    (λ late. c.in_ok-new-in-Delays.ensures.ok ∙ c.pauses_due.ensures late)
