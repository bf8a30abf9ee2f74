use Rattle.ada_records.proofs.holding.Cuts.{cuts_keep_the_rest}
use Rattle.ada_records.proofs.table_laws.cuts_keep_the_rest.Goals as goal

pub returns : goal.returns
returns c = cuts_keep_the_rest
