use Rattle.std.proofs.Common.{rules}
use Rattle.ada_tables.proofs.Standing.{stand_at_first}
use Rattle.ada_tables.proofs.tables.Tables.new.Goals as goal

pub returns-clause-stands : goal.returns-clause-stands
returns-clause-stands c = stand_at_first _ (search rules) (search rules)
