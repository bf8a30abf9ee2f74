use Rattle.ada_border.proofs.OneToOne.{outcomes}
use Rattle.ada_border.proofs.laws.outcomes_are_read_back.Goals as goal

pub returns : goal.returns
returns c = outcomes
