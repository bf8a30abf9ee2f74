use Rattle.ada_step_laws.proofs.changing.NestKinds.{blocks_are_left}
use Rattle.ada_step_laws.proofs.changes.blocks_are_left.Goals as goal

pub returns : goal.returns
returns c = blocks_are_left
