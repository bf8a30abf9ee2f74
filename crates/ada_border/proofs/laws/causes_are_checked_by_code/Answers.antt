use Rattle.ada_border.proofs.OneToOne.{checked}
use Rattle.ada_border.proofs.laws.causes_are_checked_by_code.Goals as goal

pub returns : goal.returns
returns c = checked
