use Rattle.std.proofs.Common.{refl}
use Rattle.ada_records.proofs.following.Applied.{known_followed}
use Rattle.ada_records.proofs.turning.SuspensionTurns.{hold_known}
use Rattle.ada_records.proofs.suspension.follow_hold.Goals as goal

pub returns : goal.returns
returns c = λ event before holds lawful.
    known_followed _ _ c.args.records.now _ _ _ _ _ _ _ (hold_known event before c.args.by holds lawful)
    refl refl c.requires.recorded c.refresh.ensures lawful
