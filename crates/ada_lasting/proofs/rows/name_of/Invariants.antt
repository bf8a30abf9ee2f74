use Rattle.std.proofs.Common.{◌≡◌, drop}
use Rattle.ada_lasting.specs.internal.NamesBack.{named_by}
use Rattle.ada_lasting.proofs.rows.name_of.Given as goal

abbrev pub invariant-loop-row : goal.invariant-loop-row
invariant-loop-row l = named_by (drop l.row-index l.fn.rows) l.present ≡ named_by l.fn.rows l.present
