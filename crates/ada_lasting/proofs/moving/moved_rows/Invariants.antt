use Rattle.std.proofs.Common.{◌≡◌, ◌++◌, drop}
use Rattle.ada_standing.specs.Names.{placed}
use Rattle.ada_lasting.specs.internal.Moving.{moved}
use Rattle.ada_lasting.proofs.moving.moved_rows.Given as goal

abbrev pub invariant-loop-row : goal.invariant-loop-row
invariant-loop-row l = l.out.items ++ moved (placed l.renaming.places) (drop l.row-index l.rows) ≡ moved (placed l.renaming.places) l.rows
