-- The law, as its lemmas prove it.
use Rattle.ada_schedules.proofs.Covering.{no_schedule_gets_stuck}
use Rattle.ada_schedules.proofs.no_schedule_gets_stuck.Goals as goal

pub returns : goal.returns
returns g c = no_schedule_gets_stuck
