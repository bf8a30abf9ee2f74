use Rattle.std.proofs.Common.{refl}
use Rattle.ada_records.proofs.following.Applied.{known_followed}
use Rattle.ada_records.proofs.turning.EndingTurns.{halt_known}
use Rattle.ada_records.proofs.aborts.follow_halt.Goals as goal

pub returns : goal.returns
returns c = λ before lawful.
    known_followed _ _ c.args.records.now _ _ _ _ _ _ _ (halt_known _ before c.args.task refl lawful)
    c.leave_queue.ensures.queues refl c.requires.recorded c.refresh.ensures lawful
