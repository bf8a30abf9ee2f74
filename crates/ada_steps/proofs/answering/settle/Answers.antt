use Rattle.ada_steps.proofs.Settled.{room_left, less_work, settling_more, settling_begins}
use Rattle.ada_steps.proofs.answering.settle.Goals as goal

pub loop-init : goal.loop-init
loop-init g c = (settling_begins c.args.journal.now c.requires.lawful c.requires.room, c.requires.stands)

pub advance-requires-clause-room : goal.advance-requires-clause-room
advance-requires-clause-room g c = λ step found. room_left c.args.journal.now.events c.loop.journal step c.loop.invariant.0 found

pub loop-smaller : goal.loop-smaller
loop-smaller g c =
    let (step, found, appended, spare) = c.advance.ensures.step c.loop-test.true in
    less_work c.loop.journal c.advance.new.journal step c.loop.invariant.0.lawful found appended

pub loop-preserved : goal.loop-preserved
loop-preserved g c =
    let (step, found, appended, spare) = c.advance.ensures.step c.loop-test.true in (
      settling_more c.args.journal.now.events c.loop.journal c.advance.new.journal step c.loop.invariant.0 found appended spare,
      c.advance.ensures.stands,
    )
