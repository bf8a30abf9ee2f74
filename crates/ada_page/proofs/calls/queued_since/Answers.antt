use Rattle.std.proofs.Common.{reverse, take, sym, subst, arith, rules}
use Rattle.ada_page.specs.Standing.{AreQueued}
use Rattle.ada_page.proofs.Growing.{lawful_next, stood_all, stood_before, stood_next}
use Rattle.ada_page.proofs.calls.queued_since.Goals as goal

pub queued_after-requires-clause-lawful : goal.queued_after-requires-clause-lawful
queued_after-requires-clause-lawful c =
    lawful_next c.args.events.now c.loop-at.at c.index-events-at.result c.loop-at-test.true c.index-events-at.is c.requires.lawful

pub queued_after-requires-clause-queued : goal.queued_after-requires-clause-queued
queued_after-requires-clause-queued c =
    subst (λ calls. AreQueued (reverse (take c.loop-at.at c.args.events.now)) calls) (sym c.deref.ensures.value)
    (stood_before c.args.known c.loop-at.at c.args.events.now c.loop-at.queues.items c.index-last.result.now c.loop-at.auto.at c.loop-at.invariant.0
    c.loop-at.invariant.1 c.index-last.ensures)

pub loop-at-preserved : goal.loop-at-preserved
loop-at-preserved c =
    stood_next c.args.known c.loop-at.at c.args.events.now c.index-events-at.result c.loop-at.queues.items c.push-in-loop-at.new.self.items
    c.in_ok-next.next c.loop-at.auto.at c.loop-at-test.true c.index-events-at.is c.loop-at.invariant c.in_ok-next.ensures (search rules)

pub returns : goal.returns
returns c =
    stood_all c.args.known c.loop-at.at c.args.events.now c.loop-at.queues.items c.requires.known c.loop-at.invariant.0
    (omega (arith, c.loop-at-test.false, c.loop-at.auto.at-end)) c.loop-at.invariant.1
