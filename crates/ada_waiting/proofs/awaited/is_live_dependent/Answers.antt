use Rattle.ada_waiting.proofs.Unawaited.{unknown_dependent}
use Rattle.ada_waiting.proofs.awaited.is_live_dependent.Goals as goal

pub returns-in-None : goal.returns-in-None
returns-in-None c = unknown_dependent c.args.view.now c.args.master c.args.other.0 c.in-None.ensures
