-- The law, as its lemmas prove it.
use Rattle.ada_schedules.proofs.Covering.{closed_sets_cover_what_follows}
use Rattle.ada_schedules.proofs.closed_sets_cover_what_follows.Goals as goal

pub returns : goal.returns
returns g c = closed_sets_cover_what_follows
