-- The law, as its lemmas prove it.
use Rattle.ada_schedules.proofs.Stuck.{time_passes_alike}
use Rattle.ada_schedules.proofs.time_passes_alike.Goals as goal

pub returns : goal.returns
returns c = time_passes_alike
