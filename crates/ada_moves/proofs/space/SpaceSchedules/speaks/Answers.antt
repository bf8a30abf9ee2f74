use Rattle.ada_behaviours.proofs.Speaking.{behaviours_speak_in_names}
use Rattle.ada_moves.proofs.space.SpaceSchedules.speaks.Goals as goal

pub returns : goal.returns
returns g c = behaviours_speak_in_names (g.B.Behaviour.told c.args.self.now.behaviour.now)
