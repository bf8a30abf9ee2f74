-- Why a task doesn't go on, in plain numbers, and back.
use Rattle.std.specs.Prelude.{◌≡◌, ℕ, ◌==◌, if◌then◌else◌, Option, Some, None}
use Rattle.ada_waiting.specs.declared.reasons.Reason.{Reason}
use Rattle.ada_waiting.specs.declared.reasons.Reason.TheVariants.{NotStarted, Activating, Queued, InRendezvous, Waiting, Delayed, Leaving, Completed}
use Rattle.ada_embed.specs.declared.reasons.PlainReason.{PlainReason}

abbrev pub at : ℕ → ℕ → PlainReason
at kind position = record { kind = kind; position = position }

unfoldable pub plain_reason : Option Reason → PlainReason
plain_reason None = at 0 0
plain_reason (Some NotStarted) = at 1 0
plain_reason (Some (Activating start)) = at 2 start
plain_reason (Some (Queued call)) = at 3 call
plain_reason (Some (InRendezvous call)) = at 4 call
plain_reason (Some (Waiting wait)) = at 5 wait
plain_reason (Some (Delayed pause)) = at 6 pause
plain_reason (Some (Leaving close)) = at 7 close
plain_reason (Some Completed) = at 8 0

-- the reason that numbers tell of
unfoldable pub reason_at : PlainReason → Option Reason
reason_at p =
    if p.kind == 0 then None else if p.kind == 1 then Some NotStarted else if p.kind == 2 then Some (Activating p.position)
    else if p.kind == 3 then Some (Queued p.position) else if p.kind == 4 then Some (InRendezvous p.position)
    else if p.kind == 5 then Some (Waiting p.position) else if p.kind == 6 then Some (Delayed p.position)
    else if p.kind == 7 then Some (Leaving p.position) else Some Completed

-- a reason is told whole by its numbers
abbrev pub AreReasonsReadBack : Type 0
AreReasonsReadBack = (reason : Option Reason) → reason_at (plain_reason reason) ≡ reason
