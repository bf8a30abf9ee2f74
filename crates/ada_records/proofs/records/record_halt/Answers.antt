use Rattle.std.proofs.Common.{inr, refl}
use Rattle.ada_records.proofs.records.record_halt.Goals as goal

pub returns : goal.returns
returns c = c.record_completed.ensures _ (inr refl)
