-- What the answers of a hall print, one after another.
use Rattle.std.specs.Prelude.{◌≡◌, ◌≤◌, ℕ, List, ◌++◌, reverse}
use Rattle.ada_events.specs.declared.event.Event.{Event}
use Rattle.ada_script.specs.declared.script.Line.{Line}
use Rattle.ada_statements.specs.Scope.{Scope}
use Rattle.ada_replay.specs.Play.{PlayState}
use Rattle.ada_replay.specs.declared.answer.Answer.{Answer}
use Rattle.ada_replay.specs.declared.answer.Answer.TheVariants.{Group}
use Rattle.ada_hall.specs.declared.answer.KeptAnswer.{KeptAnswer}
use Rattle.ada_hall.specs.History.{IsGiven}
use Rattle.ada_hall.specs.Printing.{Continues}

-- the events of a group are among so many
abbrev pub EndsWithin : Answer → ℕ → ℕ → Type 0
EndsWithin (Group _ last) from many = (from ≤ last) × (last ≤ many)
EndsWithin _ _ _ = Unit {0}

-- whatever state the answer was given over, what it prints is appended, and its line's name is bound
abbrev pub PrintsOne : Line → List Event → KeptAnswer → Scope → Scope → List ℕ → List ℕ → Type 0
PrintsOne line events kept names bound text more =
    (script : List Line) (old new : PlayState) (said : List ℕ) → (given : IsGiven script kept old said new) → given.line ≡ line → old.names ≡ names
    → Continues new.journal (reverse events) → (more ≡ text ++ said) × (bound ≡ new.names)
