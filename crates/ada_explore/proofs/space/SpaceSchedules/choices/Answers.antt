use Rattle.ada_explore.proofs.Choosing.{all_are_there}
use Rattle.ada_explore.proofs.space.SpaceSchedules.choices.Goals as goal

pub returns : goal.returns
returns c = all_are_there _ _ _ _ _ _ _ c.in_ok-add_time.ensures c.in_ok-add_lines.ensures
