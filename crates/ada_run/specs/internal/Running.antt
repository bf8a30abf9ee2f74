-- A run of a script: threads play its lines, and what the answers print is written.
use Rattle.std.specs.Prelude.{ℕ, List, length}
use Rattle.ada_script.specs.declared.script.Line.{Line}
use Rattle.ada_hall.specs.declared.answer.KeptAnswer.{KeptAnswer}
use Rattle.ada_hall.specs.Answers.{AreAll, AnswerNoPlaceTwice, AreJoined}

-- each line of the script has one answer, and each answer was given where the one before it ended, the first at the
-- beginning, up to so many events
pub record AreWhole (script : List Line) (answers : List KeptAnswer) (events : ℕ) : Type 0 where
  pub all : AreAll (length script) answers
  pub apart : AnswerNoPlaceTwice answers
  pub joined : AreJoined answers 0 events
