-- A reason is told whole by its numbers.
use Rattle.std.proofs.Common.{Some, None, refl}
use Rattle.ada_waiting.specs.declared.reasons.Reason.TheVariants as reason
use Rattle.ada_embed.specs.Reasons.{plain_reason, reason_at, AreReasonsReadBack}

pub reasons : AreReasonsReadBack
unfolding plain_reason reason_at
reasons None = refl
reasons (Some reason.NotStarted) = refl
reasons (Some (reason.Activating start)) = refl
reasons (Some (reason.Queued call)) = refl
reasons (Some (reason.InRendezvous call)) = refl
reasons (Some (reason.Waiting wait)) = refl
reasons (Some (reason.Delayed pause)) = refl
reasons (Some (reason.Leaving close)) = refl
reasons (Some reason.Completed) = refl
