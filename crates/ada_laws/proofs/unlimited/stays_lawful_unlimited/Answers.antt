-- The law, as its lemmas prove it.
use Rattle.ada_laws.proofs.asking.RequestLaws.{after-unlimited}
use Rattle.ada_laws.proofs.unlimited.stays_lawful_unlimited.Goals as goal

pub returns : goal.returns
returns c = after-unlimited
