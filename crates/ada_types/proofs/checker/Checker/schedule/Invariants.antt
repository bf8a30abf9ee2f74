use Rattle.std.proofs.Common.{vec_len}
use Rattle.ada_types.proofs.checker.Checker.schedule.Given as goal

abbrev pub decreases-loop-step : goal.decreases-loop-step
decreases-loop-step l = vec_len l.self.asked
