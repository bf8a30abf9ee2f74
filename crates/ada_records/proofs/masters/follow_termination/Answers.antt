use Rattle.std.proofs.Common.{refl}
use Rattle.ada_records.proofs.following.Applied.{known_followed}
use Rattle.ada_records.proofs.turning.EndingTurns.{termination_known}
use Rattle.ada_records.proofs.masters.follow_termination.Goals as goal

pub returns : goal.returns
returns c = λ before lawful.
    known_followed _ _ c.args.records.now _ _ _ _ _ _ _ (termination_known _ before c.args.task refl lawful)
    refl refl c.requires.recorded c.refresh.ensures lawful
