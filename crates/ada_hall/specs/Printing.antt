-- What the answers of a hall print, one after another.
use Rattle.std.specs.Prelude.{◌≡◌, ℕ, List, ◌++◌}
use Rattle.ada_events.specs.declared.event.Event.{Event}
use Rattle.ada_script.specs.declared.script.Line.{Line}
use Rattle.ada_replay.specs.Play.{PlayState}
use Rattle.ada_replay.specs.Replay.{beginning}
use Rattle.ada_hall.specs.declared.answer.KeptAnswer.{KeptAnswer}
use Rattle.ada_hall.specs.History.{AreGiven}

-- a journal went on from another
abbrev pub Continues : List Event → List Event → Type 0
Continues old new = (steps : List Event) × (new ≡ steps ++ old)

-- the answers were given one after another, from the script's beginning on; this is what they print, and they lead to
-- this state, from which the journal may have gone on
abbrev pub ArePrinted : List Line → List KeptAnswer → List Event → List ℕ → PlayState → Type 0
ArePrinted script answers journal text last = AreGiven script answers (beginning script) text last × Continues last.journal journal
