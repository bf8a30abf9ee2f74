use Rattle.ada_waiting.proofs.Standing as standing
use Rattle.ada_waiting.proofs.laws.stuck_for_ever.Goals as goal

pub returns : goal.returns
returns c = standing.stuck_for_ever
