use Rattle.std.proofs.Common.{◌≡◌, ◌++◌, true, drop}
use Rattle.ada_standing.specs.Names.{named}
use Rattle.ada_lasting.specs.internal.Keeping.{name_tasks}
use Rattle.ada_lasting.specs.internal.Moving.{moved}
use Rattle.ada_lasting.proofs.moving.moved_tasks.Given as goal

abbrev pub invariant-loop-row : goal.invariant-loop-row
invariant-loop-row l = record {
  rows : l.out.items ++ moved (named l.renaming.tasks) (drop l.row-index l.rows) ≡ moved (named l.renaming.tasks) l.rows;
  small : name_tasks l.out.items ≡ true;
  left : name_tasks (drop l.row-index l.rows) ≡ true;
}
