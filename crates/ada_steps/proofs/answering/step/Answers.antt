use Rattle.std.proofs.Common.{arith}
use Rattle.ada_steps.proofs.Settled.{has_places, begun_room}
use Rattle.ada_steps.proofs.answering.step.Goals as goal

pub overflow_add-at : goal.overflow_add-at
overflow_add-at g c = omega (arith, has_places c.args.journal.now.events c.requires.lawful, c.len-at.ensures)

pub settle-requires-clause-lawful : goal.settle-requires-clause-lawful
settle-requires-clause-lawful g c =
    (begun_room c.args.journal.now c.begin.new.journal c.args.request.now c.requires.lawful c.requires.settled c.in_ok-begin.ensures.ok).0

pub settle-requires-clause-room : goal.settle-requires-clause-room
settle-requires-clause-room g c =
    (begun_room c.args.journal.now c.begin.new.journal c.args.request.now c.requires.lawful c.requires.settled c.in_ok-begin.ensures.ok).1
