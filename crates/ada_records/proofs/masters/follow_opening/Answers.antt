use Rattle.std.proofs.Common.{refl, arith}
use Rattle.ada_records.proofs.following.Applied.{known_stand}
use Rattle.ada_records.proofs.turning.MasterTurns.{opening_known}
use Rattle.ada_records.proofs.masters.follow_opening.Goals as goal

pub returns : goal.returns
returns c = λ before under at lawful.
    known_stand _ before _ _ _ _ _ _ _ (opening_known _ before c.args.by under c.args.block refl (omega (arith, at)) lawful)
    refl c.push_nest.ensures refl lawful
