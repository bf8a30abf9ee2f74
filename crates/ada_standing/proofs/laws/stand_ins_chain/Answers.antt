-- The law, as its lemmas prove it.
use Rattle.ada_standing.proofs.chained.Chain.{stand_ins_chain}
use Rattle.ada_standing.proofs.laws.stand_ins_chain.Goals as goal

pub returns : goal.returns
returns c = stand_ins_chain
