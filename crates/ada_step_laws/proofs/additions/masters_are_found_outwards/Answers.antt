use Rattle.ada_step_laws.proofs.newly.Ways.{masters_are_found_outwards}
use Rattle.ada_step_laws.proofs.additions.masters_are_found_outwards.Goals as goal

pub returns : goal.returns
returns c = masters_are_found_outwards
