-- Worked journals. Abort.
use Rattle.std.specs.Prelude.{true, false, None, List, [], ◌∷◌, pos, refl}
use Rattle.ada_events.specs.declared.request.Request.TheVariants.{Create, Activate, Call, Wait, End, Abort}
use Rattle.ada_events.specs.declared.request.Tail.TheVariants.{Nothing}
use Rattle.ada_events.specs.declared.event.Event.TheVariants.{Created, Started, Called, Waiting, Ended, Aborted, Halted, Failed, Met, Activated, Gone}
use Rattle.ada_events.specs.declared.event.EventTail.TheVariants.{Nothing as NoTail}
use Rattle.ada_events.specs.declared.names.Patience.TheVariants.{Simple}
use Rattle.ada_events.proofs.worked.Turns.{Turn, accepted, after, IsPlayed, everything, main, task, body, entry, open_choice}
use Rattle.ada_events.proofs.worked.Rendezvous.{preamble_turns}

-- a task within two rendezvous aborts itself
abbrev pub self_abort_turns : List Turn
self_abort_turns =
    accepted (Call (task 2) (task 1) (entry 0 (pos 0)) Simple)
    (Called (task 2) (task 1) (entry 0 (pos 0)) Simple None ∷ []) ∷
    accepted (Call (task 3) (task 1) (entry 1 (pos 0)) Simple)
    (Called (task 3) (task 1) (entry 1 (pos 0)) Simple None ∷ []) ∷
    accepted (Wait (task 1) (open_choice (entry 0 (pos 0)) ∷ []) Nothing 0)
    (Waiting (task 1) 0 (open_choice (entry 0 (pos 0)) ∷ []) NoTail ∷ Met 9 11 ∷ []) ∷
    accepted (Wait (task 1) (open_choice (entry 1 (pos 0)) ∷ []) Nothing 0)
    (Waiting (task 1) 0 (open_choice (entry 1 (pos 0)) ∷ []) NoTail ∷ Met 10 13 ∷ []) ∷
    accepted (Call main (task 1) (entry 0 (pos 0)) Simple)
    (Called main (task 1) (entry 0 (pos 0)) Simple None ∷ []) ∷
    accepted (Abort (task 1) ((task 1) ∷ []))
    (Aborted (task 1) ((task 1) ∷ []) ∷ Halted (task 1) ∷ Failed 9 ∷ Failed 10 ∷ Failed 15 ∷ Gone (task 1) ∷ []) ∷
    []

self_abort : IsPlayed (after [] preamble_turns) self_abort_turns
unfolding everything
self_abort = refl

-- the abort of a caller in a rendezvous
abbrev pub abort_in_rendezvous_turns : List Turn
abort_in_rendezvous_turns =
    accepted (Wait (task 1) (open_choice (entry 0 (pos 0)) ∷ []) Nothing 0)
    (Waiting (task 1) 0 (open_choice (entry 0 (pos 0)) ∷ []) NoTail ∷ []) ∷
    accepted (Call (task 2) (task 1) (entry 0 (pos 0)) Simple)
    (Called (task 2) (task 1) (entry 0 (pos 0)) Simple None ∷ Met 10 9 ∷ []) ∷
    accepted (Abort main ((task 2) ∷ []))
    (Aborted main ((task 2) ∷ []) ∷ []) ∷
    accepted (End (task 1) false)
    (Ended (task 1) 10 false ∷ Halted (task 2) ∷ Gone (task 2) ∷ []) ∷
    []

abort_in_rendezvous : IsPlayed (after [] preamble_turns) abort_in_rendezvous_turns
unfolding everything
abort_in_rendezvous = refl

-- an exception ends the rendezvous of an aborted caller
abbrev raised_to_halted_caller_turns : List Turn
raised_to_halted_caller_turns =
    accepted (Wait (task 1) (open_choice (entry 0 (pos 0)) ∷ []) Nothing 0)
    (Waiting (task 1) 0 (open_choice (entry 0 (pos 0)) ∷ []) NoTail ∷ []) ∷
    accepted (Call (task 2) (task 1) (entry 0 (pos 0)) Simple)
    (Called (task 2) (task 1) (entry 0 (pos 0)) Simple None ∷ Met 10 9 ∷ []) ∷
    accepted (Abort main ((task 2) ∷ []))
    (Aborted main ((task 2) ∷ []) ∷ []) ∷
    accepted (End (task 1) true)
    (Ended (task 1) 10 true ∷ Halted (task 2) ∷ Gone (task 2) ∷ []) ∷
    []

raised_to_halted_caller : IsPlayed (after [] preamble_turns) raised_to_halted_caller_turns
unfolding everything
raised_to_halted_caller = refl

-- an abort before the activation
abbrev abort_before_activation_turns : List Turn
abort_before_activation_turns =
    accepted (Create main (body main) [])
    (Created main (body main) (body main) [] ∷ []) ∷
    accepted (Abort main ((task 1) ∷ []))
    (Aborted main ((task 1) ∷ []) ∷ Halted (task 1) ∷ Gone (task 1) ∷ []) ∷
    accepted (Activate main ((task 1) ∷ []))
    (Started main ((task 1) ∷ []) ∷ Activated 5 true ∷ []) ∷
    []

abort_before_activation : IsPlayed [] abort_before_activation_turns
unfolding everything
abort_before_activation = refl
