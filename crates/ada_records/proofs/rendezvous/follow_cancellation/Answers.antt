use Rattle.std.proofs.Common.{refl}
use Rattle.ada_records.proofs.following.Applied.{known_followed}
use Rattle.ada_records.proofs.turning.RendezvousTurns.{cancellation_known}
use Rattle.ada_records.proofs.rendezvous.follow_cancellation.Goals as goal

pub returns : goal.returns
returns c = λ before call held lawful.
    known_followed _ _ c.args.records.now _ _ _ _ _ _ _ (cancellation_known _ before call c.args.task refl held lawful)
    c.leave_queue.ensures.queues refl c.requires.recorded c.refresh.ensures lawful
