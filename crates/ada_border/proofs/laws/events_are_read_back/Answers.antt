use Rattle.ada_border.proofs.OneToOne.{read_back}
use Rattle.ada_border.proofs.laws.events_are_read_back.Goals as goal

pub returns : goal.returns
returns c = read_back
