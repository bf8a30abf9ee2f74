use Rattle.std.proofs.Common.{refl}
use Rattle.ada_records.proofs.following.Applied.{known_followed}
use Rattle.ada_records.proofs.turning.EndingTurns.{elaboration_known}
use Rattle.ada_records.proofs.activation.follow_elaboration.Goals as goal

pub returns : goal.returns
returns c = λ ok before lawful.
    known_followed _ _ c.args.records.now _ _ _ _ _ _ _ (elaboration_known _ before c.args.task ok refl lawful)
    refl refl c.requires.recorded c.refresh.ensures lawful
