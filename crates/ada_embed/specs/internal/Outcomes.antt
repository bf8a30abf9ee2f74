-- An outcome in names that last, in numbers.
use Rattle.ada_border.specs.declared.outcomes.PlainOutcome.{PlainOutcome}
use Rattle.ada_border.specs.Outcomes.{or_nobody, outcome}
use Rattle.ada_lasting.specs.declared.outcomes.LastingOutcome.{LastingOutcome}
use Rattle.ada_lasting.specs.declared.outcomes.LastingOutcome.TheVariants.{Dead, Done, Held, Served, TaskingError, Cancelled, Accepted, TookElse}
use Rattle.ada_lasting.specs.declared.outcomes.LastingOutcome.TheVariants.{TookDelay, ProgramError, Awake, ActivationOk, ActivationFailed, BlockLeft}
use Rattle.ada_lasting.specs.declared.outcomes.LastingOutcome.TheVariants.{Raised, Nothing}

unfoldable pub plain_lasting_outcome : LastingOutcome → PlainOutcome
plain_lasting_outcome Nothing = outcome 0 0 0
plain_lasting_outcome Dead = outcome 1 0 0
plain_lasting_outcome Done = outcome 2 0 0
plain_lasting_outcome Held = outcome 3 0 0
plain_lasting_outcome Served = outcome 4 0 0
plain_lasting_outcome TaskingError = outcome 5 0 0
plain_lasting_outcome Cancelled = outcome 6 0 0
plain_lasting_outcome (Accepted call choice caller) = record (outcome 7 choice call) { caller = or_nobody caller }
plain_lasting_outcome TookElse = outcome 8 0 0
plain_lasting_outcome (TookDelay number) = outcome 9 number 0
plain_lasting_outcome ProgramError = outcome 10 0 0
plain_lasting_outcome Awake = outcome 11 0 0
plain_lasting_outcome ActivationOk = outcome 12 0 0
plain_lasting_outcome ActivationFailed = outcome 13 0 0
plain_lasting_outcome BlockLeft = outcome 14 0 0
plain_lasting_outcome Raised = outcome 15 0 0
