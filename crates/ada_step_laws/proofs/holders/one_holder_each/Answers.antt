use Rattle.ada_laws.proofs.within.Owners.{one_holder}
use Rattle.ada_step_laws.proofs.holders.one_holder_each.Goals as goal

pub returns : goal.returns
returns c = one_holder
