use Rattle.std.proofs.Common.{refl}
use Rattle.ada_records.proofs.following.Applied.{known_followed}
use Rattle.ada_records.proofs.turning.RendezvousTurns.{end_known}
use Rattle.ada_records.proofs.rendezvous.follow_end.Goals as goal

pub returns : goal.returns
returns c = λ before raised held lawful.
    known_followed _ _ c.args.records.now _ _ _ _ _ _ _
    (end_known _ before c.args.by c.args.caller c.args.call (record { raised = raised; is = refl }) held lawful)
    refl c.cut_nest.ensures c.requires.recorded c.refresh.ensures lawful
