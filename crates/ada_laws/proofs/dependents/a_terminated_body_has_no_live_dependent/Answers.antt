-- The law, as its lemmas prove it.
use Rattle.ada_laws.proofs.within.DependentLaws.{a_terminated_body_has_no_live_dependent}
use Rattle.ada_laws.proofs.dependents.a_terminated_body_has_no_live_dependent.Goals as goal

pub returns : goal.returns
returns c = a_terminated_body_has_no_live_dependent
