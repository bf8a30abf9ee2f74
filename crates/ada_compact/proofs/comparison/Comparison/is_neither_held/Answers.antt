use Rattle.std.proofs.Common.{rules}
use Rattle.ada_compact.proofs.Suspended.{same_free}
use Rattle.ada_compact.proofs.comparison.Comparison.is_neither_held.Goals as goal

pub returns-then-record-eq0 : goal.returns-then-record-eq0
returns-then-record-eq0 c = λ free.
    same_free _ _ _ c.args.old.0 c.args.new.0 (c.record.ensures.right.suspension.at.free (search rules))
    (c.record-then-record-eq0.ensures.right.suspension.at.free (search rules))
