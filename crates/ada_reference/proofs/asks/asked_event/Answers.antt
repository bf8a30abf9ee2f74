use Rattle.std.proofs.Common.{w64, reverse, ◌∙◌, arith}
use Rattle.std.proofs.lemmas.Int.{to_z-of_z}
use Rattle.ada_events.proofs.Dues.{wait_asked, call_asked, delay_asked}
use Rattle.ada_reference.proofs.asks.asked_event.Goals as goal

pub returns-in-Call-clause-ok : goal.returns-in-Call-clause-ok
returns-in-Call-clause-ok c =
    call_asked (reverse c.args.events.now) _ c.args.request.now c.in-Call.by c.in-Call.callee c.in-Call.entry c.in-Call.patience c.call_due.result
    (to_z-of_z w64 c.moment.result (record { sfits = c.moment.type_inv }) ∙ c.moment.ensures) c.in-Call.is c.call_due.ensures
    c.requires.in_time

pub returns-in_ok-asked_tail-in-Wait-clause-ok : goal.returns-in_ok-asked_tail-in-Wait-clause-ok
returns-in_ok-asked_tail-in-Wait-clause-ok c =
    rw (c.in_ok-from_slice-in-Wait.ensures.ok, c.as_slice-in-Wait.ensures.value)
    (wait_asked (reverse c.args.events.now) _ c.args.request.now c.in-Wait.by c.in-Wait.choices c.in-Wait.tail c.in-Wait.pick c.in_ok-asked_tail-in-Wait.field-0
    (to_z-of_z w64 c.moment-in-Wait.result (record { sfits = c.moment-in-Wait.type_inv }) ∙ c.moment-in-Wait.ensures) c.in-Wait.is
    c.in_ok-asked_tail-in-Wait.ensures.ok c.requires.in_time)

pub returns-in-Delay-clause-ok : goal.returns-in-Delay-clause-ok
returns-in-Delay-clause-ok c =
    rw (to_z-of_z w64 c.due_after.result (record { sfits = c.due_after.type_inv }))
    (delay_asked (reverse c.args.events.now) _ c.args.request.now c.in-Delay.by c.in-Delay.duration _ c.due_after.result
    (to_z-of_z w64 c.moment-in-Delay.result (record { sfits = c.moment-in-Delay.type_inv }) ∙ c.moment-in-Delay.ensures) (grind (arith, to_z-of_z))
    c.in-Delay.is c.due_after.ensures c.requires.in_time)
