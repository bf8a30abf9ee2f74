-- The law, as its lemmas prove it.
use Rattle.ada_standing.proofs.chained.Quiet.{fewer_names_stand_in}
use Rattle.ada_standing.proofs.laws.fewer_names_stand_in.Goals as goal

pub returns : goal.returns
returns c = fewer_names_stand_in
