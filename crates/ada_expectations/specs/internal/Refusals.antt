-- What one line more adds to those that are refused.
use Rattle.std.specs.Prelude.{ℕ, Option, Some, List, [], ◌∷◌}
use Rattle.ada_replay.specs.declared.answer.Answer.{Answer}
use Rattle.ada_replay.specs.declared.answer.Answer.TheVariants.{Refused}
use Rattle.ada_expectations.specs.declared.judging.RefusedLine.{RefusedLine}

-- the line, if that is its answer
abbrev pub refused_line : ℕ → Option Answer → List RefusedLine
refused_line line (Some (Refused cause)) = record { line = line; cause = cause } ∷ []
refused_line line _ = []
