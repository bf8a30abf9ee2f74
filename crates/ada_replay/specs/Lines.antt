-- What a line of a log does: it passes, or it stops the log.
use Rattle.std.specs.Prelude.{◌≡◌, ◌⊎◌, ℕ, false, IsTrue, List}
use Rattle.ada_events.specs.declared.refusal.Refusal.{Refusal}
use Rattle.ada_statements.specs.declared.fault.Cause.{Cause}
use Rattle.ada_statements.specs.declared.statement.Statement.{Statement}
use Rattle.ada_statements.specs.Scope.{Scope, MayStand, declare}
use Rattle.ada_statements.specs.Text.{words_in}
use Rattle.ada_script.specs.Script.{IsPlain, IsUnplain, IsOfWords, IsOfNoWords, is_skipped}
use Rattle.ada_script.specs.Spelling.{words_of}
use Rattle.ada_replay.specs.Play.{PlayState, Accepts, Refuses}

-- the line isn't skipped, and its words are those of a statement that may stand where these names are declared
pub record Says (names : Scope) (line : List ℕ) (statement : Statement) : Type 0 where
  pub plain : IsPlain line
  pub unskipped : is_skipped (words_in line) ≡ false
  pub stands : MayStand names statement
  pub spelled : words_of statement ≡ words_in line

-- the state with the name that a statement declares
abbrev pub declared : PlayState → Statement → PlayState
declared old statement = record { journal = old.journal; names = declare old.names statement }

-- a line is skipped, or its statement is accepted
abbrev pub Passes : List ℕ → PlayState → PlayState → Type 0
Passes line old new = (IsPlain line × IsTrue (is_skipped (words_in line)) × (new ≡ old))
    ⊎ ((statement : Statement) × Says old.names line statement × Accepts statement (declared old statement) new)

-- a line's statement is refused for this cause, and nothing but its name is new
pub record IsRefusedLine (line : List ℕ) (statement : Statement) (cause : Refusal) (old new : PlayState) : Type 0 where
  pub says : Says old.names line statement
  pub refused : Refuses statement new cause
  pub unchanged : new ≡ declared old statement

-- why a line is none of the language where these names are declared
abbrev pub IsFaultyLine : Scope → List ℕ → Cause → Type 0
IsFaultyLine names line cause = IsUnplain line cause
    ⊎ (IsOfWords cause × IsPlain line × (is_skipped (words_in line) ≡ false) × IsOfNoWords names (words_in line))
