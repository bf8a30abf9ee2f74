-- Worked journals. Calls, accepts and rendezvous.
use Rattle.std.specs.Prelude.{true, false, None, List, [], ◌∷◌, pos, refl}
use Rattle.ada_events.specs.declared.request.Request.TheVariants.{Create, Activate, Call, Wait, End, Complete}
use Rattle.ada_events.specs.declared.request.Tail.TheVariants.{Nothing}
use Rattle.ada_events.specs.declared.event.Event.TheVariants.{Created, Started, Called, Waiting, Ended, Completed, Met, Activated, Gone}
use Rattle.ada_events.specs.declared.event.EventTail.TheVariants.{Nothing as NoTail}
use Rattle.ada_events.specs.declared.names.Patience.TheVariants.{Simple}
use Rattle.ada_events.specs.declared.refusal.Refusal.TheVariants.{ConstraintError, SameFamilyNested, NotInAccept, StillNested}
use Rattle.ada_events.proofs.worked.Turns.{Turn, accepted, refused, after, IsPlayed, everything, asks_end, ended, main, task, body, single, family, entry}
use Rattle.ada_events.proofs.worked.Turns.{open_choice, closed_choice}

-- a server, a client and one rendezvous
abbrev one_rendezvous_turns : List Turn
one_rendezvous_turns =
    accepted (Create main (body main) (single ∷ []))
    (Created main (body main) (body main) (single ∷ []) ∷ []) ∷
    accepted (Create main (body main) [])
    (Created main (body main) (body main) [] ∷ []) ∷
    accepted (Activate main ((task 1) ∷ (task 2) ∷ []))
    (Started main ((task 1) ∷ (task 2) ∷ []) ∷ []) ∷
    accepted (asks_end (task 1) true)
    (ended (task 1) true ∷ []) ∷
    accepted (asks_end (task 2) true)
    (ended (task 2) true ∷ Activated 3 true ∷ []) ∷
    accepted (Call (task 2) (task 1) (entry 0 (pos 0)) Simple)
    (Called (task 2) (task 1) (entry 0 (pos 0)) Simple None ∷ []) ∷
    accepted (Wait (task 1) (open_choice (entry 0 (pos 0)) ∷ []) Nothing 0)
    (Waiting (task 1) 0 (open_choice (entry 0 (pos 0)) ∷ []) NoTail ∷ Met 7 8 ∷ []) ∷
    accepted (End (task 1) false)
    (Ended (task 1) 7 false ∷ []) ∷
    []

one_rendezvous : IsPlayed [] one_rendezvous_turns
unfolding everything
one_rendezvous = refl

-- the same to its end
abbrev to_the_end_turns : List Turn
to_the_end_turns =
    accepted (Complete (task 2))
    (Completed (task 2) ∷ Gone (task 2) ∷ []) ∷
    accepted (Complete (task 1))
    (Completed (task 1) ∷ Gone (task 1) ∷ []) ∷
    accepted (Complete main)
    (Completed main ∷ Gone main ∷ []) ∷
    []

to_the_end : IsPlayed (after [] one_rendezvous_turns) to_the_end_turns
unfolding everything
to_the_end = refl

-- a server and two clients
abbrev pub preamble_turns : List Turn
preamble_turns =
    accepted (Create main (body main) (single ∷ single ∷ []))
    (Created main (body main) (body main) (single ∷ single ∷ []) ∷ []) ∷
    accepted (Create main (body main) [])
    (Created main (body main) (body main) [] ∷ []) ∷
    accepted (Create main (body main) [])
    (Created main (body main) (body main) [] ∷ []) ∷
    accepted (Activate main ((task 1) ∷ (task 2) ∷ (task 3) ∷ []))
    (Started main ((task 1) ∷ (task 2) ∷ (task 3) ∷ []) ∷ []) ∷
    accepted (asks_end (task 1) true)
    (ended (task 1) true ∷ []) ∷
    accepted (asks_end (task 2) true)
    (ended (task 2) true ∷ []) ∷
    accepted (asks_end (task 3) true)
    (ended (task 3) true ∷ Activated 4 true ∷ []) ∷
    []

preamble : IsPlayed [] preamble_turns
unfolding everything
preamble = refl

-- calls are taken in the order of their arrival
abbrev pub order_of_arrival_turns : List Turn
order_of_arrival_turns =
    accepted (Wait (task 1) (open_choice (entry 0 (pos 0)) ∷ []) Nothing 0)
    (Waiting (task 1) 0 (open_choice (entry 0 (pos 0)) ∷ []) NoTail ∷ []) ∷
    accepted (Call (task 2) (task 1) (entry 0 (pos 0)) Simple)
    (Called (task 2) (task 1) (entry 0 (pos 0)) Simple None ∷ Met 10 9 ∷ []) ∷
    accepted (Call (task 3) (task 1) (entry 0 (pos 0)) Simple)
    (Called (task 3) (task 1) (entry 0 (pos 0)) Simple None ∷ []) ∷
    accepted (Call main (task 1) (entry 0 (pos 0)) Simple)
    (Called main (task 1) (entry 0 (pos 0)) Simple None ∷ []) ∷
    accepted (End (task 1) false)
    (Ended (task 1) 10 false ∷ []) ∷
    accepted (Wait (task 1) (open_choice (entry 0 (pos 0)) ∷ []) Nothing 0)
    (Waiting (task 1) 0 (open_choice (entry 0 (pos 0)) ∷ []) NoTail ∷ Met 12 15 ∷ []) ∷
    []

order_of_arrival : IsPlayed (after [] preamble_turns) order_of_arrival_turns
unfolding everything
order_of_arrival = refl

-- a server with two families of entries, and two clients
abbrev families_preamble_turns : List Turn
families_preamble_turns =
    accepted (Create main (body main) ((family (pos 1) (pos 3)) ∷ (family (pos 2) (pos 1)) ∷ []))
    (Created main (body main) (body main) ((family (pos 1) (pos 3)) ∷ (family (pos 2) (pos 1)) ∷ []) ∷ []) ∷
    accepted (Create main (body main) [])
    (Created main (body main) (body main) [] ∷ []) ∷
    accepted (Create main (body main) [])
    (Created main (body main) (body main) [] ∷ []) ∷
    accepted (Activate main ((task 1) ∷ (task 2) ∷ (task 3) ∷ []))
    (Started main ((task 1) ∷ (task 2) ∷ (task 3) ∷ []) ∷ []) ∷
    accepted (asks_end (task 1) true)
    (ended (task 1) true ∷ []) ∷
    accepted (asks_end (task 2) true)
    (ended (task 2) true ∷ []) ∷
    accepted (asks_end (task 3) true)
    (ended (task 3) true ∷ Activated 4 true ∷ []) ∷
    []

families_preamble : IsPlayed [] families_preamble_turns
unfolding everything
families_preamble = refl

-- indexes within and outside the ranges of families
abbrev families_turns : List Turn
families_turns =
    accepted (Call (task 2) (task 1) (entry 0 (pos 1)) Simple)
    (Called (task 2) (task 1) (entry 0 (pos 1)) Simple None ∷ []) ∷
    accepted (Call (task 3) (task 1) (entry 0 (pos 3)) Simple)
    (Called (task 3) (task 1) (entry 0 (pos 3)) Simple None ∷ []) ∷
    refused (Wait (task 1) (open_choice (entry 0 (pos 4)) ∷ []) Nothing 0) ConstraintError ∷
    accepted (Wait (task 1) (open_choice (entry 0 (pos 3)) ∷ []) Nothing 0)
    (Waiting (task 1) 0 (open_choice (entry 0 (pos 3)) ∷ []) NoTail ∷ Met 10 11 ∷ []) ∷
    refused (Call main (task 1) (entry 0 (pos 4)) Simple) ConstraintError ∷
    refused (Call main (task 1) (entry 1 (pos 2)) Simple) ConstraintError ∷
    []

families : IsPlayed (after [] families_preamble_turns) families_turns
unfolding everything
families = refl

-- a rendezvous within a rendezvous
abbrev nested_rendezvous_turns : List Turn
nested_rendezvous_turns =
    accepted (Call (task 2) (task 1) (entry 0 (pos 0)) Simple)
    (Called (task 2) (task 1) (entry 0 (pos 0)) Simple None ∷ []) ∷
    accepted (Call (task 3) (task 1) (entry 1 (pos 0)) Simple)
    (Called (task 3) (task 1) (entry 1 (pos 0)) Simple None ∷ []) ∷
    accepted (Wait (task 1) (open_choice (entry 0 (pos 0)) ∷ []) Nothing 0)
    (Waiting (task 1) 0 (open_choice (entry 0 (pos 0)) ∷ []) NoTail ∷ Met 9 11 ∷ []) ∷
    refused (Wait (task 1) (open_choice (entry 0 (pos 0)) ∷ []) Nothing 0) SameFamilyNested ∷
    accepted (Wait (task 1) (open_choice (entry 1 (pos 0)) ∷ []) Nothing 0)
    (Waiting (task 1) 0 (open_choice (entry 1 (pos 0)) ∷ []) NoTail ∷ Met 10 13 ∷ []) ∷
    refused (Complete (task 1)) StillNested ∷
    accepted (End (task 1) false)
    (Ended (task 1) 10 false ∷ []) ∷
    accepted (End (task 1) false)
    (Ended (task 1) 9 false ∷ []) ∷
    refused (End (task 1) false) NotInAccept ∷
    []

nested_rendezvous : IsPlayed (after [] preamble_turns) nested_rendezvous_turns
unfolding everything
nested_rendezvous = refl

-- of two selectable choices number 0
abbrev picks_the_first_turns : List Turn
picks_the_first_turns =
    accepted (Call (task 2) (task 1) (entry 0 (pos 0)) Simple)
    (Called (task 2) (task 1) (entry 0 (pos 0)) Simple None ∷ []) ∷
    accepted (Call (task 3) (task 1) (entry 1 (pos 0)) Simple)
    (Called (task 3) (task 1) (entry 1 (pos 0)) Simple None ∷ []) ∷
    accepted (Wait (task 1) (open_choice (entry 0 (pos 0)) ∷ open_choice (entry 1 (pos 0)) ∷ []) Nothing 0)
    (Waiting (task 1) 0 (open_choice (entry 0 (pos 0)) ∷ open_choice (entry 1 (pos 0)) ∷ []) NoTail ∷ Met 9 11 ∷ []) ∷
    []

picks_the_first : IsPlayed (after [] preamble_turns) picks_the_first_turns
unfolding everything
picks_the_first = refl

-- of two selectable choices number 1
abbrev pub picks_the_second_turns : List Turn
picks_the_second_turns =
    accepted (Call (task 2) (task 1) (entry 0 (pos 0)) Simple)
    (Called (task 2) (task 1) (entry 0 (pos 0)) Simple None ∷ []) ∷
    accepted (Call (task 3) (task 1) (entry 1 (pos 0)) Simple)
    (Called (task 3) (task 1) (entry 1 (pos 0)) Simple None ∷ []) ∷
    accepted (Wait (task 1) (open_choice (entry 0 (pos 0)) ∷ open_choice (entry 1 (pos 0)) ∷ []) Nothing 1)
    (Waiting (task 1) 1 (open_choice (entry 0 (pos 0)) ∷ open_choice (entry 1 (pos 0)) ∷ []) NoTail ∷ Met 10 11 ∷ []) ∷
    []

picks_the_second : IsPlayed (after [] preamble_turns) picks_the_second_turns
unfolding everything
picks_the_second = refl

-- of two selectable choices the largest pick takes number 1
abbrev picks_by_remainder_turns : List Turn
picks_by_remainder_turns =
    accepted (Call (task 2) (task 1) (entry 0 (pos 0)) Simple)
    (Called (task 2) (task 1) (entry 0 (pos 0)) Simple None ∷ []) ∷
    accepted (Call (task 3) (task 1) (entry 1 (pos 0)) Simple)
    (Called (task 3) (task 1) (entry 1 (pos 0)) Simple None ∷ []) ∷
    accepted (Wait (task 1) (open_choice (entry 0 (pos 0)) ∷ open_choice (entry 1 (pos 0)) ∷ []) Nothing 4294967295)
    (Waiting (task 1) 4294967295 (open_choice (entry 0 (pos 0)) ∷ open_choice (entry 1 (pos 0)) ∷ []) NoTail ∷ Met 10 11 ∷ []) ∷
    []

picks_by_remainder : IsPlayed (after [] preamble_turns) picks_by_remainder_turns
unfolding everything
picks_by_remainder = refl

-- a closed choice isn't selectable
abbrev pub picks_open_choices_turns : List Turn
picks_open_choices_turns =
    accepted (Call (task 2) (task 1) (entry 0 (pos 0)) Simple)
    (Called (task 2) (task 1) (entry 0 (pos 0)) Simple None ∷ []) ∷
    accepted (Call (task 3) (task 1) (entry 1 (pos 0)) Simple)
    (Called (task 3) (task 1) (entry 1 (pos 0)) Simple None ∷ []) ∷
    accepted (Wait (task 1) (closed_choice (entry 0 (pos 0)) ∷ open_choice (entry 1 (pos 0)) ∷ []) Nothing 0)
    (Waiting (task 1) 0 (closed_choice (entry 0 (pos 0)) ∷ open_choice (entry 1 (pos 0)) ∷ []) NoTail ∷ Met 10 11 ∷ []) ∷
    []

picks_open_choices : IsPlayed (after [] preamble_turns) picks_open_choices_turns
unfolding everything
picks_open_choices = refl

-- an exception ends a rendezvous
abbrev pub raised_turns : List Turn
raised_turns =
    accepted (Wait (task 1) (open_choice (entry 0 (pos 0)) ∷ []) Nothing 0)
    (Waiting (task 1) 0 (open_choice (entry 0 (pos 0)) ∷ []) NoTail ∷ []) ∷
    accepted (Call (task 2) (task 1) (entry 0 (pos 0)) Simple)
    (Called (task 2) (task 1) (entry 0 (pos 0)) Simple None ∷ Met 10 9 ∷ []) ∷
    accepted (Call (task 3) (task 1) (entry 1 (pos 0)) Simple)
    (Called (task 3) (task 1) (entry 1 (pos 0)) Simple None ∷ []) ∷
    accepted (Wait (task 1) (open_choice (entry 1 (pos 0)) ∷ []) Nothing 0)
    (Waiting (task 1) 0 (open_choice (entry 1 (pos 0)) ∷ []) NoTail ∷ Met 12 13 ∷ []) ∷
    accepted (End (task 1) true)
    (Ended (task 1) 12 true ∷ []) ∷
    accepted (End (task 1) false)
    (Ended (task 1) 10 false ∷ []) ∷
    refused (End (task 1) true) NotInAccept ∷
    []

raised : IsPlayed (after [] preamble_turns) raised_turns
unfolding everything
raised = refl
