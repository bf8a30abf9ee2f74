use Rattle.std.proofs.Common.{w64}
use Rattle.std.proofs.lemmas.Int.{to_z-of_z}
use Rattle.ada_events.proofs.Dues.{all_dues}
use Rattle.ada_events.proofs.asks.pauses_due.Goals as goal

pub returns : goal.returns
returns c =
    all_dues c.args.now _ c.args.pauses.now c.loop-pause.dues c.loop-pause.pause-index
    (to_z-of_z w64 c.args.now c.ranges.now) c.loop-pause.invariant.0 c.loop-pause-test.false
