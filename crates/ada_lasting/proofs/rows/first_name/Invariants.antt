use Rattle.std.proofs.Common.{◌≡◌, drop}
use Rattle.ada_lasting.specs.internal.Awaiting.{first_name}
use Rattle.ada_lasting.proofs.rows.first_name.Given as goal

abbrev pub invariant-loop-row : goal.invariant-loop-row
invariant-loop-row l = first_name (drop l.row-index l.fn.rows) l.from ≡ first_name l.fn.rows l.from
