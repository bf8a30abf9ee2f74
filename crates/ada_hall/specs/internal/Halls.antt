-- What a hall holds.
use Rattle.std.specs.Prelude.{◌≡◌, ℕ, List, length}
use Rattle.ada_script.specs.declared.script.Line.{Line}
use Rattle.ada_statements.specs.Scope.{Scope}
use Rattle.ada_replay.specs.Ends.{state}
use Rattle.ada_replay.specs.declared.answer.Answer.{Answer}
use Rattle.ada_replay.specs.declared.answer.Answer.TheVariants.{Group}
use Rattle.ada_hall.specs.Counting.{asked_count}
use Rattle.ada_hall.specs.declared.answer.KeptAnswer.{KeptAnswer}
use Rattle.ada_hall.specs.PublishedKernels.{Showing}
use Rattle.ada_hall.specs.Halls.{IsHistory}

-- an answer that isn't a group
abbrev pub IsOfShow : Answer → Type 0
IsOfShow (Group _ _) = ⊥
IsOfShow _ = Unit {0}

-- what every hall keeps
pub record IsHall (script : List Line) (places total : ℕ) (showing : Showing) (names : Scope) (answers : List KeptAnswer) : Type 0 where
  pub places_are : places ≡ length script
  pub history : IsHistory script answers (state showing.journal names)
  pub counted : total ≡ asked_count showing.journal
