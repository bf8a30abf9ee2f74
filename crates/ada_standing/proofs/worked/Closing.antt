-- Worked pairs. A dependent that is gone held up the end of a block, until a call came that holds it up now.
use Rattle.std.specs.Prelude.{◌≡◌, Bool, true, false, not, ◌&&◌, ◌==◌, Some, None, List, [], ◌∷◌, length, pos, refl}
use Rattle.ada_events.specs.declared.names.Family.{Family}
use Rattle.ada_events.specs.declared.request.Request.TheVariants.{Open, Create, Activate, Call, Wait, Close, Complete}
use Rattle.ada_events.specs.declared.request.Tail.TheVariants.{Terminate}
use Rattle.ada_events.specs.declared.event.Event.TheVariants.{Opened, Created, Started, Called, Waiting, Closed, Completed, Failed, Activated, Gone, Quit, Left}
use Rattle.ada_events.specs.declared.event.EventTail.TheVariants.{Terminate as TerminatePart}
use Rattle.ada_events.specs.declared.names.Patience.TheVariants.{Simple}
use Rattle.ada_standing.specs.Renaming.{Renaming}
use Rattle.ada_standing.specs.Names.{Names, renaming_of}
use Rattle.ada_standing.specs.StandsIn.{StandsIn}
use Rattle.ada_standing.proofs.Deciding.{stands}
use Rattle.ada_standing.proofs.Decided.{stands_in}
use Rattle.ada_standing.proofs.Unmatched.{unmatched}
use Rattle.ada_events.proofs.worked.Turns.{Turn, accepted, after, IsPlayed, asks_end, ended, main, task, body, block, single, entry, closed_choice}
use Rattle.ada_standing.proofs.worked.Pairs.{everything, place}

-- the main program closes its block. Task 2 there waits at a terminate alternative, but task 3 still runs; so nobody
-- quits. Then a task of the outside calls task 2, and only now task 3 completes: the call goes on holding up the quit.
abbrev old_turns : List Turn
old_turns =
    accepted (Create main (body main) [])
    (Created main (body main) (body main) [] ∷ []) ∷
    accepted (Activate main ((task 1) ∷ []))
    (Started main ((task 1) ∷ []) ∷ []) ∷
    accepted (asks_end (task 1) true)
    (ended (task 1) true ∷ Activated 2 true ∷ []) ∷
    accepted (Open main)
    (Opened main (body main) ∷ []) ∷
    accepted (Create main (block 5) (single ∷ []))
    (Created main (block 5) (block 5) (single ∷ []) ∷ []) ∷
    accepted (Create main (block 5) [])
    (Created main (block 5) (block 5) [] ∷ []) ∷
    accepted (Activate main ((task 2) ∷ (task 3) ∷ []))
    (Started main ((task 2) ∷ (task 3) ∷ []) ∷ []) ∷
    accepted (asks_end (task 2) true)
    (ended (task 2) true ∷ []) ∷
    accepted (asks_end (task 3) true)
    (ended (task 3) true ∷ Activated 8 true ∷ []) ∷
    accepted (Wait (task 2) (closed_choice (entry 0 (pos 0)) ∷ []) (Terminate true) 0)
    (Waiting (task 2) 0 (closed_choice (entry 0 (pos 0)) ∷ []) (TerminatePart true) ∷ []) ∷
    accepted (Close main)
    (Closed main 5 ∷ []) ∷
    accepted (Call (task 1) (task 2) (entry 0 (pos 0)) Simple)
    (Called (task 1) (task 2) (entry 0 (pos 0)) Simple None ∷ []) ∷
    accepted (Complete (task 3))
    (Completed (task 3) ∷ Gone (task 3) ∷ []) ∷
    []

old_played : IsPlayed [] old_turns
unfolding everything
old_played = refl

-- what both short journals begin with, without task 3: task 2 waits at its terminate alternative
abbrev waiting_turns : List Turn
waiting_turns =
    accepted (Create main (body main) [])
    (Created main (body main) (body main) [] ∷ []) ∷
    accepted (Activate main ((task 1) ∷ []))
    (Started main ((task 1) ∷ []) ∷ []) ∷
    accepted (asks_end (task 1) true)
    (ended (task 1) true ∷ Activated 2 true ∷ []) ∷
    accepted (Open main)
    (Opened main (body main) ∷ []) ∷
    accepted (Create main (block 5) (single ∷ []))
    (Created main (block 5) (block 5) (single ∷ []) ∷ []) ∷
    accepted (Activate main ((task 2) ∷ []))
    (Started main ((task 2) ∷ []) ∷ []) ∷
    accepted (asks_end (task 2) true)
    (ended (task 2) true ∷ Activated 7 true ∷ []) ∷
    accepted (Wait (task 2) (closed_choice (entry 0 (pos 0)) ∷ []) (Terminate true) 0)
    (Waiting (task 2) 0 (closed_choice (entry 0 (pos 0)) ∷ []) (TerminatePart true) ∷ []) ∷
    []

waiting_played : IsPlayed [] waiting_turns
unfolding everything
waiting_played = refl

-- the right end: first the call, then the close
abbrev right_turns : List Turn
right_turns =
    accepted (Call (task 1) (task 2) (entry 0 (pos 0)) Simple)
    (Called (task 1) (task 2) (entry 0 (pos 0)) Simple None ∷ []) ∷
    accepted (Close main)
    (Closed main 5 ∷ []) ∷
    []

right_played : IsPlayed (after [] waiting_turns) right_turns
unfolding everything
right_played = refl

-- the block, the wait, the close and the call. The close stands after the call now, and it stood before it: the order of a
-- close and a call decides nothing
abbrev right_names : Names
right_names = record {
  tasks = Some main ∷ Some (task 1) ∷ Some (task 2) ∷ [];
  places = place 5 5 ∷ place 12 10 ∷ place 13 12 ∷ place 14 11 ∷ [];
}

right_stands_in : StandsIn (after [] old_turns) (after (after [] waiting_turns) right_turns) (renaming_of right_names)
unfolding everything
right_stands_in = stands_in (after [] old_turns) (after (after [] waiting_turns) right_turns) right_names refl

-- the wrong end: the close and the call in their old order. Without task 3 the close is followed by a quit, and the call
-- fails
abbrev wrong_turns : List Turn
wrong_turns =
    accepted (Close main)
    (Closed main 5 ∷ Quit (block 5) ∷ Left 11 ∷ []) ∷
    accepted (Call (task 1) (task 2) (entry 0 (pos 0)) Simple)
    (Called (task 1) (task 2) (entry 0 (pos 0)) Simple None ∷ Failed 14 ∷ []) ∷
    []

wrong_played : IsPlayed (after [] waiting_turns) wrong_turns
unfolding everything
wrong_played = refl

abbrev wrong_names : Names
wrong_names = record {
  tasks = Some main ∷ Some (task 1) ∷ Some (task 2) ∷ [];
  places = place 5 5 ∷ place 12 10 ∷ place 13 11 ∷ place 14 14 ∷ [];
}

wrong_is_told : stands (after [] old_turns) (after (after [] waiting_turns) wrong_turns) wrong_names ≡ false
unfolding everything
wrong_is_told = refl

-- a task that has an entry and isn't terminated
abbrev has_entry_and_lives : List Family → Bool → Bool
has_entry_and_lives families terminated = not (length families == 0) && not terminated

-- and other names don't help: nobody that isn't terminated has an entry there, as task 2 has
wrong_stands_in_never : (names : Renaming) → StandsIn (after [] old_turns) (after (after [] waiting_turns) wrong_turns) names → ⊥
unfolding everything
wrong_stands_in_never names =
    unmatched (after [] old_turns) (after (after [] waiting_turns) wrong_turns) names 2 has_entry_and_lives refl refl refl
