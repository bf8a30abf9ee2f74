use Rattle.std.proofs.Common.{inl, refl}
use Rattle.ada_records.proofs.records.record_completion.Goals as goal

pub returns : goal.returns
returns c = c.record_completed.ensures _ (inl refl)
