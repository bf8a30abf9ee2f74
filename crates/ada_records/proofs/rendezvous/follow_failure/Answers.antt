use Rattle.std.proofs.Common.{refl}
use Rattle.ada_records.proofs.following.Applied.{known_followed}
use Rattle.ada_records.proofs.turning.EndingTurns.{failure_known}
use Rattle.ada_records.proofs.rendezvous.follow_failure.Goals as goal

pub returns : goal.returns
returns c = λ before held called lawful.
    known_followed _ _ c.args.records.now _ _ _ _ _ _ _ (failure_known _ before c.args.call c.args.caller c.args.callee refl held called lawful)
    c.leave_queue.ensures.queues c.cut_nest.ensures c.requires.recorded c.refresh.ensures lawful
