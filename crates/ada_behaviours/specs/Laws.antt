-- What holds of every behaviour.
use Rattle.ada_schedules.specs.Closed.{SpeaksInNames}
use Rattle.ada_behaviours.specs.Behaviours.{Behaviour}
use Rattle.ada_behaviours.specs.Moves.{behaving}
use Rattle.ada_behaviours.specs.Same.{SameRest}

-- whatever its tasks do, it names them by their names alone
abbrev pub BehavioursSpeakInNames : Type 0 → Type 0
BehavioursSpeakInNames State = (behaviour : Behaviour State) → SpeaksInNames (behaving behaviour) SameRest
