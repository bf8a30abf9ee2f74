-- Why a statement is turned down, and how a log is judged then.
use Rattle.std.specs.Prelude.{◌≡◌, ◌⊎◌, ℕ, List}
use Rattle.ada_statements.specs.declared.fault.Cause.TheVariants as causes
use Rattle.ada_statements.specs.declared.statement.Statement.{Statement}
use Rattle.ada_replay.specs.Play.{PlayState, Refuses}
use Rattle.ada_replay.specs.declared.judgement.Judgement.{Judgement}
use Rattle.ada_replay.specs.declared.judgement.Judgement.TheVariants.{Refused, Faulty}
use Rattle.ada_replay.specs.declared.judgement.Stop.{Stop}
use Rattle.ada_replay.specs.declared.judgement.Stop.TheVariants as stops
use Rattle.ada_replay.specs.Lines.{declared, IsRefusedLine, IsFaultyLine}

-- a statement is refused once its name is declared, or memory was refused
abbrev pub IsTurnedDown : Statement → PlayState → Stop → PlayState → Type 0
IsTurnedDown said old (stops.Refused statement cause) new = (statement ≡ said) × Refuses said new cause × (new ≡ declared old said)
IsTurnedDown said old (stops.Faulty cause) new = cause ≡ causes.OutOfMemory

-- how a log is judged that the line of this number stops
abbrev pub judged : ℕ → Stop → Judgement
judged number (stops.Refused statement cause) = Refused number statement cause
judged number (stops.Faulty cause) = Faulty (record { line = number; cause = cause })

-- why a line stops a log; or memory was refused
abbrev pub IsStop : List ℕ → PlayState → Stop → PlayState → Type 0
IsStop line old (stops.Refused statement cause) new = IsRefusedLine line statement cause old new
IsStop line old (stops.Faulty cause) new = (cause ≡ causes.OutOfMemory) ⊎ (IsFaultyLine old.names line cause × (new ≡ old))
