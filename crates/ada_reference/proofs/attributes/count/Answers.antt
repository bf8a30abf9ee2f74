use Rattle.std.proofs.Common.{◌&&◌, reverse}
use Rattle.std.specs.Bool.{then_some}
use Rattle.ada_events.specs.Calls.{is_call_of, is_queued_at}
use Rattle.ada_reference.proofs.Few.{counted_step}
use Rattle.ada_reference.proofs.attributes.count.Goals as goal

pub loop-i-preserved : goal.loop-i-preserved
loop-i-preserved c =
    counted_step (λ p e. then_some (is_call_of c.args.task.0 c.args.entry e && is_queued_at (reverse c.args.events.now) p e) p)
    c.args.events.now c.loop-i.i c.index-events-i.result c.loop-i.count c.one_if_queued-count.result
    c.loop-i-test.true c.index-events-i.is c.loop-i.invariant c.one_if_queued-count.ensures.value c.one_if_queued-count.ensures.few
