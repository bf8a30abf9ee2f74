use Rattle.std.proofs.Common.{refl}
use Rattle.ada_records.proofs.following.Applied.{known_followed}
use Rattle.ada_records.proofs.turning.SuspensionTurns.{release_known}
use Rattle.ada_records.proofs.suspension.follow_release.Goals as goal

pub returns : goal.returns
returns c = λ event before position frees held lawful.
    known_followed _ _ c.args.records.now _ _ _ _ _ _ _ (release_known event before position c.args.task frees held lawful)
    refl refl c.requires.recorded c.refresh.ensures lawful
