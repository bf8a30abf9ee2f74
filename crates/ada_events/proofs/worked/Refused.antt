-- Worked journals. Refusals.
use Rattle.std.specs.Prelude.{true, None, List, [], ◌∷◌, pos, refl}
use Rattle.ada_events.specs.declared.request.Request.TheVariants.{Create, Activate, Call, Wait, Close, Complete, Abort}
use Rattle.ada_events.specs.declared.request.Tail.TheVariants.{Nothing, Otherwise, Terminate}
use Rattle.ada_events.specs.declared.event.Event.TheVariants.{Created, Started, Called, Waiting, Met, Activated}
use Rattle.ada_events.specs.declared.event.EventTail.TheVariants.{Nothing as NoTail}
use Rattle.ada_events.specs.declared.names.Patience.TheVariants.{Simple}
use Rattle.ada_events.specs.declared.refusal.Refusal.TheVariants.{UnknownTask, NotRunning, DuringActivation, NotActivating, NotYourMaster, EmptyList}
use Rattle.ada_events.specs.declared.refusal.Refusal.TheVariants.{NotYourTask, NoAccept, TerminateInAccept, NoBlock, MainTask}
use Rattle.ada_events.proofs.worked.Turns.{Turn, accepted, refused, after, IsPlayed, everything, asks_end, ended, main, task, nobody, body, entry, open_choice}
use Rattle.ada_events.proofs.worked.Rendezvous.{preamble_turns}

-- one refusal after another
abbrev refusals_turns : List Turn
refusals_turns =
    refused (Activate main []) EmptyList ∷
    refused (Activate main ((task 1) ∷ [])) NotYourTask ∷
    refused (Create (task 2) (body (task 3)) []) NotYourMaster ∷
    refused (asks_end nobody true) UnknownTask ∷
    refused (asks_end main true) NotActivating ∷
    refused (Wait (task 1) [] Otherwise 0) NoAccept ∷
    refused (Close main) NoBlock ∷
    refused (Abort (task 2) (main ∷ [])) MainTask ∷
    accepted (Create main (body main) [])
    (Created main (body main) (body main) [] ∷ []) ∷
    refused (Complete (task 4)) NotRunning ∷
    accepted (Activate main ((task 4) ∷ []))
    (Started main ((task 4) ∷ []) ∷ []) ∷
    refused (Complete (task 4)) DuringActivation ∷
    accepted (asks_end (task 4) true)
    (ended (task 4) true ∷ Activated 10 true ∷ []) ∷
    accepted (Call (task 2) (task 1) (entry 0 (pos 0)) Simple)
    (Called (task 2) (task 1) (entry 0 (pos 0)) Simple None ∷ []) ∷
    accepted (Wait (task 1) (open_choice (entry 0 (pos 0)) ∷ []) Nothing 0)
    (Waiting (task 1) 0 (open_choice (entry 0 (pos 0)) ∷ []) NoTail ∷ Met 13 14 ∷ []) ∷
    refused (Wait (task 1) (open_choice (entry 1 (pos 0)) ∷ []) (Terminate true) 0) TerminateInAccept ∷
    []

refusals : IsPlayed (after [] preamble_turns) refusals_turns
unfolding everything
refusals = refl
