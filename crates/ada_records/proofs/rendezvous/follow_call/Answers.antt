use Rattle.std.proofs.Common.{refl}
use Rattle.ada_records.proofs.following.Applied.{known_followed, joined}
use Rattle.ada_records.proofs.turning.RendezvousTurns.{call_known}
use Rattle.ada_records.proofs.rendezvous.follow_call.Goals as goal

pub returns : goal.returns
returns c = λ event before calls at lawful.
    known_followed _ _ c.args.records.now _ _ _ _ _ _ _ (call_known event before c.args.by c.args.callee c.args.entry calls lawful)
    (joined c.args.tables.now _ before _ _ _ _ at c.enqueue_reserved.ensures) refl c.requires.recorded c.refresh.ensures lawful
