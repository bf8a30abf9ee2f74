use Rattle.std.proofs.Common.{refl}
use Rattle.ada_records.proofs.following.Applied.{known_followed}
use Rattle.ada_records.proofs.turning.RendezvousTurns.{meeting_known}
use Rattle.ada_records.proofs.rendezvous.follow_meeting.Goals as goal

pub returns : goal.returns
returns c = λ before wait calls waits lawful.
    known_followed _ _ c.args.records.now _ _ _ _ _ _ _ (meeting_known _ before c.args.call wait c.args.served c.args.acceptor refl calls waits lawful)
    c.leave_queue.ensures.queues c.push_nest.ensures c.requires.recorded c.refresh.ensures lawful
