-- Worked journals. Activation and termination.
use Rattle.std.specs.Prelude.{true, false, Some, None, List, [], ◌∷◌, pos, refl}
use Rattle.ada_events.specs.declared.request.Request.TheVariants.{Open, Create, Activate, Call, Wait, Close, Complete, Tick}
use Rattle.ada_events.specs.declared.request.Tail.TheVariants.{Terminate}
use Rattle.ada_events.specs.declared.event.Event.TheVariants.{Opened, Created, Started, Called, Waiting, Closed, Completed, Ticked, Failed, Cancelled}
use Rattle.ada_events.specs.declared.event.Event.TheVariants.{Activated, Gone, Quit, Left}
use Rattle.ada_events.specs.declared.event.EventTail.TheVariants.{Terminate as TerminatePart}
use Rattle.ada_events.specs.declared.names.Patience.TheVariants.{Simple, Timed}
use Rattle.ada_events.specs.declared.refusal.Refusal.TheVariants.{NotRunning}
use Rattle.ada_events.proofs.worked.Turns.{Turn, accepted, refused, after, IsPlayed, everything, asks_end, ended, main, task, body, block, single, entry}
use Rattle.ada_events.proofs.worked.Turns.{open_choice, closed_choice}

-- one of two activations fails
abbrev pub failed_activation_turns : List Turn
failed_activation_turns =
    accepted (Create main (body main) [])
    (Created main (body main) (body main) [] ∷ []) ∷
    accepted (Create main (body main) [])
    (Created main (body main) (body main) [] ∷ []) ∷
    accepted (Activate main ((task 1) ∷ (task 2) ∷ []))
    (Started main ((task 1) ∷ (task 2) ∷ []) ∷ []) ∷
    accepted (asks_end (task 1) false)
    (ended (task 1) false ∷ Gone (task 1) ∷ []) ∷
    refused (Complete main) NotRunning ∷
    accepted (asks_end (task 2) true)
    (ended (task 2) true ∷ Activated 3 false ∷ []) ∷
    accepted (Complete main)
    (Completed main ∷ []) ∷
    []

failed_activation : IsPlayed [] failed_activation_turns
unfolding everything
failed_activation = refl

-- two tasks whose activation is started
abbrev two_activating_turns : List Turn
two_activating_turns =
    accepted (Create main (body main) [])
    (Created main (body main) (body main) [] ∷ []) ∷
    accepted (Create main (body main) [])
    (Created main (body main) (body main) [] ∷ []) ∷
    accepted (Activate main ((task 1) ∷ (task 2) ∷ []))
    (Started main ((task 1) ∷ (task 2) ∷ []) ∷ []) ∷
    []

two_activating : IsPlayed [] two_activating_turns
unfolding everything
two_activating = refl

-- both activations fail
abbrev two_failures_turns : List Turn
two_failures_turns =
    accepted (asks_end (task 1) false)
    (ended (task 1) false ∷ Gone (task 1) ∷ []) ∷
    accepted (asks_end (task 2) false)
    (ended (task 2) false ∷ Activated 3 false ∷ Gone (task 2) ∷ []) ∷
    []

two_failures : IsPlayed (after [] two_activating_turns) two_failures_turns
unfolding everything
two_failures = refl

-- a task that its failed maker hadn't activated
abbrev maker_fails_turns : List Turn
maker_fails_turns =
    accepted (Create (task 1) (body (task 1)) [])
    (Created (task 1) (body (task 1)) (body (task 1)) [] ∷ []) ∷
    accepted (asks_end (task 1) false)
    (ended (task 1) false ∷ Gone (task 3) ∷ Gone (task 1) ∷ []) ∷
    []

maker_fails : IsPlayed (after [] two_activating_turns) maker_fails_turns
unfolding everything
maker_fails = refl

-- a call to a task that is abandoned before its activation
abbrev call_before_activation_turns : List Turn
call_before_activation_turns =
    accepted (Open main)
    (Opened main (body main) ∷ []) ∷
    accepted (Create main (body main) [])
    (Created main (block 1) (body main) [] ∷ []) ∷
    accepted (Activate main ((task 1) ∷ []))
    (Started main ((task 1) ∷ []) ∷ []) ∷
    accepted (asks_end (task 1) true)
    (ended (task 1) true ∷ Activated 3 true ∷ []) ∷
    accepted (Create main (block 1) (single ∷ []))
    (Created main (block 1) (block 1) (single ∷ []) ∷ []) ∷
    accepted (Call (task 1) (task 2) (entry 0 (pos 0)) Simple)
    (Called (task 1) (task 2) (entry 0 (pos 0)) Simple None ∷ []) ∷
    accepted (Close main)
    (Closed main 1 ∷ Gone (task 2) ∷ Failed 7 ∷ Left 8 ∷ []) ∷
    []

call_before_activation : IsPlayed [] call_before_activation_turns
unfolding everything
call_before_activation = refl

-- two tasks of a block, one with a dependent of its own
abbrev with_dependents_turns : List Turn
with_dependents_turns =
    accepted (Create main (body main) [])
    (Created main (body main) (body main) [] ∷ []) ∷
    accepted (Activate main ((task 1) ∷ []))
    (Started main ((task 1) ∷ []) ∷ []) ∷
    accepted (asks_end (task 1) true)
    (ended (task 1) true ∷ Activated 2 true ∷ []) ∷
    accepted (Open main)
    (Opened main (body main) ∷ []) ∷
    accepted (Create main (block 5) (single ∷ []))
    (Created main (block 5) (block 5) (single ∷ []) ∷ []) ∷
    accepted (Create main (block 5) (single ∷ []))
    (Created main (block 5) (block 5) (single ∷ []) ∷ []) ∷
    accepted (Activate main ((task 2) ∷ (task 3) ∷ []))
    (Started main ((task 2) ∷ (task 3) ∷ []) ∷ []) ∷
    accepted (Create (task 2) (body (task 2)) (single ∷ []))
    (Created (task 2) (body (task 2)) (body (task 2)) (single ∷ []) ∷ []) ∷
    accepted (Activate (task 2) ((task 4) ∷ []))
    (Started (task 2) ((task 4) ∷ []) ∷ []) ∷
    accepted (asks_end (task 4) true)
    (ended (task 4) true ∷ Activated 10 true ∷ []) ∷
    accepted (asks_end (task 2) true)
    (ended (task 2) true ∷ []) ∷
    accepted (asks_end (task 3) true)
    (ended (task 3) true ∷ Activated 8 true ∷ []) ∷
    []

with_dependents : IsPlayed [] with_dependents_turns
unfolding everything
with_dependents = refl

-- a call from outside holds up collective termination
abbrev held_up_termination_turns : List Turn
held_up_termination_turns =
    accepted (Wait (task 2) (open_choice (entry 0 (pos 0)) ∷ []) (Terminate true) 0)
    (Waiting (task 2) 0 (open_choice (entry 0 (pos 0)) ∷ []) (TerminatePart true) ∷ []) ∷
    accepted (Wait (task 3) (open_choice (entry 0 (pos 0)) ∷ []) (Terminate true) 0)
    (Waiting (task 3) 0 (open_choice (entry 0 (pos 0)) ∷ []) (TerminatePart true) ∷ []) ∷
    accepted (Wait (task 4) (closed_choice (entry 0 (pos 0)) ∷ []) (Terminate true) 0)
    (Waiting (task 4) 0 (closed_choice (entry 0 (pos 0)) ∷ []) (TerminatePart true) ∷ []) ∷
    accepted (Call (task 1) (task 4) (entry 0 (pos 0)) (Timed (pos 5)))
    (Called (task 1) (task 4) (entry 0 (pos 0)) (Timed (pos 5)) (Some (pos 5)) ∷ []) ∷
    accepted (Close main)
    (Closed main 5 ∷ []) ∷
    accepted (Tick (pos 5))
    (Ticked (pos 5) ∷ Cancelled 19 ∷ Quit (block 5) ∷ Left 20 ∷ []) ∷
    []

held_up_termination : IsPlayed (after [] with_dependents_turns) held_up_termination_turns
unfolding everything
held_up_termination = refl

-- collective termination
abbrev collective_termination_turns : List Turn
collective_termination_turns =
    accepted (Wait (task 2) (open_choice (entry 0 (pos 0)) ∷ []) (Terminate true) 0)
    (Waiting (task 2) 0 (open_choice (entry 0 (pos 0)) ∷ []) (TerminatePart true) ∷ []) ∷
    accepted (Wait (task 3) (open_choice (entry 0 (pos 0)) ∷ []) (Terminate true) 0)
    (Waiting (task 3) 0 (open_choice (entry 0 (pos 0)) ∷ []) (TerminatePart true) ∷ []) ∷
    accepted (Wait (task 4) (closed_choice (entry 0 (pos 0)) ∷ []) (Terminate true) 0)
    (Waiting (task 4) 0 (closed_choice (entry 0 (pos 0)) ∷ []) (TerminatePart true) ∷ []) ∷
    accepted (Close main)
    (Closed main 5 ∷ Quit (block 5) ∷ Left 19 ∷ []) ∷
    []

collective_termination : IsPlayed (after [] with_dependents_turns) collective_termination_turns
unfolding everything
collective_termination = refl
