-- Worked pairs. A server whose client is gone: all that is left is the main program and the server that waits.
use Rattle.std.specs.Prelude.{true, false, Some, None, List, [], ◌∷◌, pos, refl}
use Rattle.ada_events.specs.declared.request.Request.TheVariants.{Create, Activate, Call, Wait, End, Complete}
use Rattle.ada_events.specs.declared.request.Tail.TheVariants.{Nothing}
use Rattle.ada_events.specs.declared.event.Event.TheVariants.{Created, Started, Called, Waiting, Ended, Completed, Met, Activated, Gone}
use Rattle.ada_events.specs.declared.event.EventTail.TheVariants.{Nothing as NoTail}
use Rattle.ada_events.specs.declared.names.Patience.TheVariants.{Simple}
use Rattle.ada_standing.specs.Names.{Names, renaming_of}
use Rattle.ada_standing.specs.StandsIn.{StandsIn}
use Rattle.ada_standing.proofs.Decided.{stands_in}
use Rattle.ada_events.proofs.worked.Turns.{Turn, accepted, after, IsPlayed, asks_end, ended, main, task, body, single, entry, open_choice}
use Rattle.ada_standing.proofs.worked.Pairs.{everything, place}

-- a rendezvous is served, its caller completes, and the server waits again
abbrev old_turns : List Turn
old_turns =
    accepted (Create main (body main) (single ∷ []))
    (Created main (body main) (body main) (single ∷ []) ∷ []) ∷
    accepted (Create main (body main) [])
    (Created main (body main) (body main) [] ∷ []) ∷
    accepted (Activate main ((task 1) ∷ (task 2) ∷ []))
    (Started main ((task 1) ∷ (task 2) ∷ []) ∷ []) ∷
    accepted (asks_end (task 1) true)
    (ended (task 1) true ∷ []) ∷
    accepted (asks_end (task 2) true)
    (ended (task 2) true ∷ Activated 3 true ∷ []) ∷
    accepted (Wait (task 1) (open_choice (entry 0 (pos 0)) ∷ []) Nothing 0)
    (Waiting (task 1) 0 (open_choice (entry 0 (pos 0)) ∷ []) NoTail ∷ []) ∷
    accepted (Call (task 2) (task 1) (entry 0 (pos 0)) Simple)
    (Called (task 2) (task 1) (entry 0 (pos 0)) Simple None ∷ Met 8 7 ∷ []) ∷
    accepted (End (task 1) false)
    (Ended (task 1) 8 false ∷ []) ∷
    accepted (Complete (task 2))
    (Completed (task 2) ∷ Gone (task 2) ∷ []) ∷
    accepted (Wait (task 1) (open_choice (entry 0 (pos 0)) ∷ []) Nothing 0)
    (Waiting (task 1) 0 (open_choice (entry 0 (pos 0)) ∷ []) NoTail ∷ []) ∷
    []

old_played : IsPlayed [] old_turns
unfolding everything
old_played = refl

-- the server alone, which waits
abbrev new_turns : List Turn
new_turns =
    accepted (Create main (body main) (single ∷ []))
    (Created main (body main) (body main) (single ∷ []) ∷ []) ∷
    accepted (Activate main ((task 1) ∷ []))
    (Started main ((task 1) ∷ []) ∷ []) ∷
    accepted (asks_end (task 1) true)
    (ended (task 1) true ∷ Activated 2 true ∷ []) ∷
    accepted (Wait (task 1) (open_choice (entry 0 (pos 0)) ∷ []) Nothing 0)
    (Waiting (task 1) 0 (open_choice (entry 0 (pos 0)) ∷ []) NoTail ∷ []) ∷
    []

new_played : IsPlayed [] new_turns
unfolding everything
new_played = refl

-- the client can't be named any more, and of all positions only that of the pending wait can
abbrev names : Names
names = record {
  tasks = Some main ∷ Some (task 1) ∷ [];
  places = place 13 5 ∷ [];
}

short_stands_in : StandsIn (after [] old_turns) (after [] new_turns) (renaming_of names)
unfolding everything
short_stands_in = stands_in (after [] old_turns) (after [] new_turns) names refl
