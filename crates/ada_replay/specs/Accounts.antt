-- The account of a play: the answers to its lines, and what they print, each over the journal and the bindings that the
-- lines before it left.
use Rattle.std.specs.Prelude.{ℕ, List, [], ◌∷◌, ◌++◌, length}
use Rattle.ada_script.specs.declared.script.Line.{Line}
use Rattle.ada_replay.specs.declared.answer.Answer.{Answer}
use Rattle.ada_replay.specs.Answers.{answer_to}
use Rattle.ada_replay.specs.Play.{PlayState, SaysLine}

-- the answers to some lines, what these print, one after another, and from where to where they lead
pub data Accounts : List Line → PlayState → List Answer → List ℕ → PlayState → Type 0 where
  no_more : {state : PlayState} → Accounts [] state [] [] state
  one_more : {line : Line} {others : List Line} {answers : List Answer} {old between new : PlayState} {rest : List ℕ}
      → (said : List ℕ) → SaysLine line old said between → Accounts others between answers rest new
      → Accounts (line ∷ others) old (answer_to old line.statement (length between.journal) ∷ answers) (said ++ rest) new
