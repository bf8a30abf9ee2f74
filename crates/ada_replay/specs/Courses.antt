-- The course of a log: its lines pass, one after another, up to the first that stops it.
use Rattle.std.specs.Prelude.{◌≡◌, ◌⊎◌, ℕ, ◌+◌, List, [], ◌∷◌}
use Rattle.ada_statements.specs.Scope.{main_alone}
use Rattle.ada_replay.specs.Play.{PlayState}
use Rattle.ada_replay.specs.declared.judgement.Judgement.{Judgement}
use Rattle.ada_replay.specs.declared.judgement.Judgement.TheVariants.{Conforms, Refused, Faulty}
use Rattle.ada_replay.specs.Lines.{Passes, IsRefusedLine, IsFaultyLine}

-- before the first line: an empty journal, and the main program alone
abbrev pub beginning : PlayState
beginning = record { journal = []; names = main_alone }

-- the line of this number stops a log
abbrev pub Stops : ℕ → List ℕ → PlayState → Judgement → PlayState → Type 0
Stops number line old Conforms new = ⊥
Stops number line old (Refused at statement cause) new = (at ≡ number) × IsRefusedLine line statement cause old new
Stops number line old (Faulty fault) new = (fault.line ≡ number) × IsFaultyLine old.names line fault.cause × (new ≡ old)

-- lines, of which the first has this number, lead from a state to another one, where the first of them stops that
-- doesn't pass; or all pass
abbrev pub IsCourse : ℕ → List (List ℕ) → PlayState → Judgement → PlayState → Type 0
IsCourse number [] old judgement new = (judgement ≡ Conforms) × (new ≡ old)
IsCourse number (line ∷ lines) old judgement new = Stops number line old judgement new
    ⊎ ((between : PlayState) × Passes line old between × IsCourse (number + 1) lines between judgement new)

-- so many of all lines conform: those before the one that stops the log, or all
abbrev pub ManyConform : Judgement → (all many : ℕ) → Type 0
ManyConform Conforms all many = many ≡ all
ManyConform (Refused at statement cause) all many = at ≡ many + 1
ManyConform (Faulty fault) all many = fault.line ≡ many + 1
