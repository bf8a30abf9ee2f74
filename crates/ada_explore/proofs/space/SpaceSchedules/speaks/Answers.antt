use Rattle.ada_explore.proofs.naming.Speaking.{scripts_speak}
use Rattle.ada_explore.proofs.space.SpaceSchedules.speaks.Goals as goal

pub returns : goal.returns
returns c = scripts_speak c.args.self.now.freedom c.args.self.now.script.now c.args.self.now.short
