-- The law, as its lemmas prove it.
use Rattle.ada_behaviours.proofs.Speaking.{behaviours_speak_in_names}
use Rattle.ada_behaviours.proofs.behaviours_speak_in_names.Goals as goal

pub returns : goal.returns
returns g c = behaviours_speak_in_names
