use Rattle.ada_reference.proofs.Places.{slot_of_step}
use Rattle.ada_reference.proofs.slots.slot_of.Goals as goal

pub loop-i-preserved : goal.loop-i-preserved
loop-i-preserved c =
    slot_of_step c.args.task.0 c.args.entry c.args.events.now c.loop-i.i c.index-events-i.result c.loop-i.count c.made_in-count.result
    c.loop-i.found c.slot_made.result c.or-found.result c.loop-i-test.true c.index-events-i.is c.loop-i.invariant
    c.slot_made.ensures c.made_in-count.ensures.value c.made_in-count.ensures.few c.or-found.ensures
