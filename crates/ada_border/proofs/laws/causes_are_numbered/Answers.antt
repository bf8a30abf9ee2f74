use Rattle.ada_border.proofs.OneToOne.{numbered}
use Rattle.ada_border.proofs.laws.causes_are_numbered.Goals as goal

pub returns : goal.returns
returns c = numbered
