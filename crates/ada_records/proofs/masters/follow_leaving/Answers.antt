use Rattle.std.proofs.Common.{refl}
use Rattle.ada_records.proofs.following.Applied.{known_followed}
use Rattle.ada_records.proofs.turning.MasterTurns.{leaving_known}
use Rattle.ada_records.proofs.masters.follow_leaving.Goals as goal

pub returns : goal.returns
returns c = λ before close held lawful.
    known_followed _ _ c.args.records.now _ _ _ _ _ _ _ (leaving_known _ before close c.args.holder refl held lawful)
    refl c.pop_nest.ensures c.requires.recorded c.refresh.ensures lawful
