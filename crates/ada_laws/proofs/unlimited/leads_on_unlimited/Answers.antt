-- The law, as its lemmas prove it.
use Rattle.ada_laws.proofs.asking.LimitLaws.{leads_on-unlimited}
use Rattle.ada_laws.proofs.unlimited.leads_on_unlimited.Goals as goal

pub returns : goal.returns
returns c = leads_on-unlimited
