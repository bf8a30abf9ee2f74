-- Worked pairs. A server in a rendezvous, with a timed call in a queue of its own.
use Rattle.std.specs.Prelude.{◌≡◌, true, false, Some, None, List, [], ◌∷◌, pos, refl}
use Rattle.ada_events.specs.declared.request.Request.TheVariants.{Create, Activate, Call, Wait, End, Complete, Tick}
use Rattle.ada_events.specs.declared.request.Tail.TheVariants.{Nothing}
use Rattle.ada_events.specs.declared.event.Event.TheVariants.{Created, Started, Called, Waiting, Ended, Completed, Ticked, Met, Activated, Gone}
use Rattle.ada_events.specs.declared.event.EventTail.TheVariants.{Nothing as NoTail}
use Rattle.ada_events.specs.declared.names.Patience.TheVariants.{Simple, Timed}
use Rattle.ada_standing.specs.Names.{Names, renaming_of}
use Rattle.ada_standing.specs.StandsIn.{StandsIn}
use Rattle.ada_standing.proofs.Deciding.{stands}
use Rattle.ada_standing.proofs.Decided.{stands_in}
use Rattle.ada_events.proofs.worked.Turns.{Turn, accepted, after, IsPlayed, asks_end, ended, main, task, body, single, entry, open_choice}
use Rattle.ada_standing.proofs.worked.Pairs.{everything, place}

-- a server of two entries and three clients
abbrev clients_turns : List Turn
clients_turns =
    accepted (Create main (body main) (single ∷ single ∷ []))
    (Created main (body main) (body main) (single ∷ single ∷ []) ∷ []) ∷
    accepted (Create main (body main) [])
    (Created main (body main) (body main) [] ∷ []) ∷
    accepted (Create main (body main) [])
    (Created main (body main) (body main) [] ∷ []) ∷
    accepted (Create main (body main) [])
    (Created main (body main) (body main) [] ∷ []) ∷
    accepted (Activate main ((task 1) ∷ (task 2) ∷ (task 3) ∷ (task 4) ∷ []))
    (Started main ((task 1) ∷ (task 2) ∷ (task 3) ∷ (task 4) ∷ []) ∷ []) ∷
    accepted (asks_end (task 1) true)
    (ended (task 1) true ∷ []) ∷
    accepted (asks_end (task 2) true)
    (ended (task 2) true ∷ []) ∷
    accepted (asks_end (task 3) true)
    (ended (task 3) true ∷ []) ∷
    accepted (asks_end (task 4) true)
    (ended (task 4) true ∷ Activated 5 true ∷ []) ∷
    []

clients_played : IsPlayed [] clients_turns
unfolding everything
clients_played = refl

-- the first client is served and completes. At the moment 10 the third makes a timed call, due at 50, and the second is in
-- a rendezvous.
abbrev old_turns : List Turn
old_turns =
    accepted (Call (task 2) (task 1) (entry 0 (pos 0)) Simple)
    (Called (task 2) (task 1) (entry 0 (pos 0)) Simple None ∷ []) ∷
    accepted (Wait (task 1) (open_choice (entry 0 (pos 0)) ∷ []) Nothing 0)
    (Waiting (task 1) 0 (open_choice (entry 0 (pos 0)) ∷ []) NoTail ∷ Met 11 12 ∷ []) ∷
    accepted (End (task 1) false)
    (Ended (task 1) 11 false ∷ []) ∷
    accepted (Complete (task 2))
    (Completed (task 2) ∷ Gone (task 2) ∷ []) ∷
    accepted (Tick (pos 10))
    (Ticked (pos 10) ∷ []) ∷
    accepted (Call (task 4) (task 1) (entry 1 (pos 0)) (Timed (pos 40)))
    (Called (task 4) (task 1) (entry 1 (pos 0)) (Timed (pos 40)) (Some (pos 50)) ∷ []) ∷
    accepted (Call (task 3) (task 1) (entry 0 (pos 0)) Simple)
    (Called (task 3) (task 1) (entry 0 (pos 0)) Simple None ∷ []) ∷
    accepted (Wait (task 1) (open_choice (entry 0 (pos 0)) ∷ []) Nothing 0)
    (Waiting (task 1) 0 (open_choice (entry 0 (pos 0)) ∷ []) NoTail ∷ Met 19 20 ∷ []) ∷
    []

old_played : IsPlayed (after [] clients_turns) old_turns
unfolding everything
old_played = refl

-- two clients, of which the second makes the timed call; all of it at the moment 0, and the tick last
abbrev new_turns : List Turn
new_turns =
    accepted (Create main (body main) (single ∷ single ∷ []))
    (Created main (body main) (body main) (single ∷ single ∷ []) ∷ []) ∷
    accepted (Create main (body main) [])
    (Created main (body main) (body main) [] ∷ []) ∷
    accepted (Create main (body main) [])
    (Created main (body main) (body main) [] ∷ []) ∷
    accepted (Activate main ((task 1) ∷ (task 2) ∷ (task 3) ∷ []))
    (Started main ((task 1) ∷ (task 2) ∷ (task 3) ∷ []) ∷ []) ∷
    accepted (asks_end (task 1) true)
    (ended (task 1) true ∷ []) ∷
    accepted (asks_end (task 2) true)
    (ended (task 2) true ∷ []) ∷
    accepted (asks_end (task 3) true)
    (ended (task 3) true ∷ Activated 4 true ∷ []) ∷
    accepted (Call (task 3) (task 1) (entry 1 (pos 0)) (Timed (pos 50)))
    (Called (task 3) (task 1) (entry 1 (pos 0)) (Timed (pos 50)) (Some (pos 50)) ∷ []) ∷
    accepted (Call (task 2) (task 1) (entry 0 (pos 0)) Simple)
    (Called (task 2) (task 1) (entry 0 (pos 0)) Simple None ∷ []) ∷
    accepted (Wait (task 1) (open_choice (entry 0 (pos 0)) ∷ []) Nothing 0)
    (Waiting (task 1) 0 (open_choice (entry 0 (pos 0)) ∷ []) NoTail ∷ Met 10 11 ∷ []) ∷
    accepted (Tick (pos 10))
    (Ticked (pos 10) ∷ []) ∷
    []

new_played : IsPlayed [] new_turns
unfolding everything
new_played = refl

-- the server's outcome is that it accepted the call at 19, and its nest holds it: that call is at 10 in the new journal
abbrev names : Names
names = record {
  tasks = Some main ∷ Some (task 1) ∷ None ∷ Some (task 2) ∷ Some (task 3) ∷ [];
  places = place 18 9 ∷ place 19 10 ∷ [];
}

short_stands_in : StandsIn (after (after [] clients_turns) old_turns) (after [] new_turns) (renaming_of names)
unfolding everything
short_stands_in = stands_in (after (after [] clients_turns) old_turns) (after [] new_turns) names refl

-- without a place for the accepted call, neither the outcome nor the nest can be told
abbrev too_few_names : Names
too_few_names = record {
  tasks = Some main ∷ Some (task 1) ∷ None ∷ Some (task 2) ∷ Some (task 3) ∷ [];
  places = place 18 9 ∷ [];
}

too_few_are_told : stands (after (after [] clients_turns) old_turns) (after [] new_turns) too_few_names ≡ false
unfolding everything
too_few_are_told = refl
