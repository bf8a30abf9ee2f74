use Rattle.ada_waiting.proofs.Holding as holding
use Rattle.ada_waiting.proofs.laws.suspended_there.Goals as goal

pub returns : goal.returns
returns c = holding.suspended_there
