-- An outcome in names that last is told in the same numbers as that of a journal without an end.
use Rattle.std.proofs.Common.{◌≡◌, List, refl}
use Rattle.ada_events.specs.declared.event.Event.{Event}
use Rattle.ada_events.specs.declared.outcome.Outcome.{Outcome}
use Rattle.ada_events.specs.declared.outcome.Outcome.TheVariants as became
use Rattle.ada_border.specs.Outcomes.{plain_outcome}
use Rattle.ada_lasting.specs.Outcomes.{told_outcome}
use Rattle.ada_embed.specs.Outcomes.{outcome_told}
use Rattle.ada_embed.specs.internal.Outcomes.{plain_lasting_outcome}

pub told_alike : (journal : List Event) (o : Outcome) → plain_lasting_outcome (told_outcome journal o) ≡ outcome_told journal o
unfolding plain_outcome told_outcome plain_lasting_outcome
told_alike journal became.Nothing = refl
told_alike journal became.Dead = refl
told_alike journal became.Done = refl
told_alike journal became.Held = refl
told_alike journal became.Served = refl
told_alike journal became.TaskingError = refl
told_alike journal became.Cancelled = refl
told_alike journal (became.Accepted call choice) = refl
told_alike journal became.TookElse = refl
told_alike journal (became.TookDelay number) = refl
told_alike journal became.ProgramError = refl
told_alike journal became.Awake = refl
told_alike journal became.ActivationOk = refl
told_alike journal became.ActivationFailed = refl
told_alike journal became.BlockLeft = refl
told_alike journal became.Raised = refl
