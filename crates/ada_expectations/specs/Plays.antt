-- The play of a script that is judged.
use Rattle.std.specs.Prelude.{◌≡◌, ℕ, List, [], ◌∷◌}
use Rattle.ada_waiting.specs.Standstill.{verdict_of}
use Rattle.ada_explain.specs.declared.standstill.Standstill.{Standstill}
use Rattle.ada_script.specs.declared.script.Line.{Line}
use Rattle.ada_script.specs.Script.{IsScript}
use Rattle.ada_replay.specs.declared.answer.Answer.{Answer}
use Rattle.ada_replay.specs.declared.answer.Answer.TheVariants.{Refused}
use Rattle.ada_replay.specs.Play.{PlayState}
use Rattle.ada_replay.specs.Replay.{beginning}
use Rattle.ada_replay.specs.Accounts.{Accounts}
use Rattle.ada_expectations.specs.declared.judging.RefusedLine.{RefusedLine}

-- the lines that are refused, by the answers to all lines
unfoldable pub refused_in : List Line → List Answer → List RefusedLine
refused_in [] answers = []
refused_in (line ∷ lines) [] = []
refused_in (line ∷ lines) (Refused cause ∷ answers) = record { line = line.line; cause = cause } ∷ refused_in lines answers
refused_in (line ∷ lines) (answer ∷ answers) = refused_in lines answers

-- a text is a script, whose play refuses these lines, and ends where this can let it go on
pub record IsPlayOf (text : List ℕ) (end : Standstill) (refused : List RefusedLine) : Type 0 where
  pub lines : List Line
  pub script : IsScript text lines
  pub answers : List Answer
  pub printed : List ℕ
  pub state : PlayState
  pub plays : Accounts lines (beginning lines) answers printed state
  pub refuses : refused ≡ refused_in lines answers
  pub ends : end.verdict ≡ verdict_of state.journal
