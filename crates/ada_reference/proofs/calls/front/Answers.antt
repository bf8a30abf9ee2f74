use Rattle.std.proofs.Common.{◌&&◌, reverse}
use Rattle.std.specs.Bool.{then_some}
use Rattle.ada_events.specs.Calls.{is_call_of, is_queued_at}
use Rattle.ada_reference.proofs.Loops.{first_gathered_step}
use Rattle.ada_reference.proofs.calls.front.Goals as goal

pub loop-i-preserved : goal.loop-i-preserved
loop-i-preserved c =
    first_gathered_step (λ p e. then_some (is_call_of c.args.task.0 c.args.entry e && is_queued_at (reverse c.args.events.now) p e) p)
    c.args.events.now c.loop-i.i c.index-events-i.result c.loop-i.first c.or_queued-first.result
    c.loop-i-test.true c.index-events-i.is c.loop-i.invariant c.or_queued-first.ensures
