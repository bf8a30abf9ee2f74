-- Worked pairs. A task completed and was aborted later; its dependent is in a rendezvous, so neither is gone.
use Rattle.std.specs.Prelude.{true, Some, None, List, [], ◌∷◌, pos, refl}
use Rattle.ada_events.specs.declared.request.Request.TheVariants.{Create, Activate, Call, Wait, Complete, Abort}
use Rattle.ada_events.specs.declared.request.Tail.TheVariants.{Nothing}
use Rattle.ada_events.specs.declared.event.Event.TheVariants.{Created, Started, Called, Waiting, Completed, Aborted, Halted, Met, Activated, Gone}
use Rattle.ada_events.specs.declared.event.EventTail.TheVariants.{Nothing as NoTail}
use Rattle.ada_events.specs.declared.names.Patience.TheVariants.{Simple}
use Rattle.ada_events.specs.declared.refusal.Refusal.TheVariants.{NotRunning}
use Rattle.ada_standing.specs.Names.{Names, renaming_of}
use Rattle.ada_standing.specs.StandsIn.{StandsIn}
use Rattle.ada_standing.proofs.Decided.{stands_in}
use Rattle.ada_events.proofs.worked.Turns.{Turn, accepted, refused, after, IsPlayed, asks_end, ended, main, task, body, single, entry, open_choice}
use Rattle.ada_standing.proofs.worked.Pairs.{everything, place}

-- task 2 makes task 3 and completes; task 3 is in a rendezvous with task 1 when task 2 is aborted, and so abnormal
abbrev old_turns : List Turn
old_turns =
    accepted (Create main (body main) (single ∷ []))
    (Created main (body main) (body main) (single ∷ []) ∷ []) ∷
    accepted (Create main (body main) [])
    (Created main (body main) (body main) [] ∷ []) ∷
    accepted (Activate main ((task 1) ∷ (task 2) ∷ []))
    (Started main ((task 1) ∷ (task 2) ∷ []) ∷ []) ∷
    accepted (asks_end (task 1) true)
    (ended (task 1) true ∷ []) ∷
    accepted (asks_end (task 2) true)
    (ended (task 2) true ∷ Activated 3 true ∷ []) ∷
    accepted (Create (task 2) (body (task 2)) [])
    (Created (task 2) (body (task 2)) (body (task 2)) [] ∷ []) ∷
    accepted (Activate (task 2) ((task 3) ∷ []))
    (Started (task 2) ((task 3) ∷ []) ∷ []) ∷
    accepted (asks_end (task 3) true)
    (ended (task 3) true ∷ Activated 8 true ∷ []) ∷
    accepted (Complete (task 2))
    (Completed (task 2) ∷ []) ∷
    accepted (Call (task 3) (task 1) (entry 0 (pos 0)) Simple)
    (Called (task 3) (task 1) (entry 0 (pos 0)) Simple None ∷ []) ∷
    accepted (Wait (task 1) (open_choice (entry 0 (pos 0)) ∷ []) Nothing 0)
    (Waiting (task 1) 0 (open_choice (entry 0 (pos 0)) ∷ []) NoTail ∷ Met 12 13 ∷ []) ∷
    accepted (Abort main ((task 2) ∷ []))
    (Aborted main ((task 2) ∷ []) ∷ []) ∷
    []

old_played : IsPlayed [] old_turns
unfolding everything
old_played = refl

-- what all new journals begin with: a helper, task 1, and then the same up to the rendezvous, without a completion
abbrev walk_turns : List Turn
walk_turns =
    accepted (Create main (body main) (single ∷ []))
    (Created main (body main) (body main) (single ∷ []) ∷ []) ∷
    accepted (Activate main ((task 1) ∷ []))
    (Started main ((task 1) ∷ []) ∷ []) ∷
    accepted (asks_end (task 1) true)
    (ended (task 1) true ∷ Activated 2 true ∷ []) ∷
    accepted (Create main (body main) (single ∷ []))
    (Created main (body main) (body main) (single ∷ []) ∷ []) ∷
    accepted (Create main (body main) [])
    (Created main (body main) (body main) [] ∷ []) ∷
    accepted (Activate main ((task 2) ∷ (task 3) ∷ []))
    (Started main ((task 2) ∷ (task 3) ∷ []) ∷ []) ∷
    accepted (asks_end (task 2) true)
    (ended (task 2) true ∷ []) ∷
    accepted (asks_end (task 3) true)
    (ended (task 3) true ∷ Activated 7 true ∷ []) ∷
    accepted (Create (task 3) (body (task 3)) [])
    (Created (task 3) (body (task 3)) (body (task 3)) [] ∷ []) ∷
    accepted (Activate (task 3) ((task 4) ∷ []))
    (Started (task 3) ((task 4) ∷ []) ∷ []) ∷
    accepted (asks_end (task 4) true)
    (ended (task 4) true ∷ Activated 12 true ∷ []) ∷
    accepted (Call (task 4) (task 2) (entry 0 (pos 0)) Simple)
    (Called (task 4) (task 2) (entry 0 (pos 0)) Simple None ∷ []) ∷
    accepted (Wait (task 2) (open_choice (entry 0 (pos 0)) ∷ []) Nothing 0)
    (Waiting (task 2) 0 (open_choice (entry 0 (pos 0)) ∷ []) NoTail ∷ Met 15 16 ∷ []) ∷
    []

walk_played : IsPlayed [] walk_turns
unfolding everything
walk_played = refl

-- the call in the rendezvous is the only position that is named any more
abbrev names : Names
names = record {
  tasks = Some main ∷ Some (task 2) ∷ Some (task 3) ∷ Some (task 4) ∷ [];
  places = place 12 15 ∷ [];
}

-- the right end: the helper aborts the dependent alone, the task completes, and then the helper
abbrev right_turns : List Turn
right_turns =
    accepted (Abort (task 1) ((task 4) ∷ []))
    (Aborted (task 1) ((task 4) ∷ []) ∷ []) ∷
    accepted (Complete (task 3))
    (Completed (task 3) ∷ []) ∷
    accepted (Complete (task 1))
    (Completed (task 1) ∷ Gone (task 1) ∷ []) ∷
    []

right_played : IsPlayed (after [] walk_turns) right_turns
unfolding everything
right_played = refl

right_stands_in : StandsIn (after [] old_turns) (after (after [] walk_turns) right_turns) (renaming_of names)
unfolding everything
right_stands_in = stands_in (after [] old_turns) (after (after [] walk_turns) right_turns) names refl

-- an end that aborts the task too: this halts it, so its completion is refused. It is complete all the same, and so this
-- journal, in which the refused request leaves nothing, stands in as well.
abbrev halted_turns : List Turn
halted_turns =
    accepted (Abort (task 1) ((task 3) ∷ (task 4) ∷ []))
    (Aborted (task 1) ((task 3) ∷ (task 4) ∷ []) ∷ Halted (task 3) ∷ []) ∷
    refused (Complete (task 3)) NotRunning ∷
    accepted (Complete (task 1))
    (Completed (task 1) ∷ Gone (task 1) ∷ []) ∷
    []

halted_played : IsPlayed (after [] walk_turns) halted_turns
unfolding everything
halted_played = refl

halted_stands_in : StandsIn (after [] old_turns) (after (after [] walk_turns) halted_turns) (renaming_of names)
unfolding everything
halted_stands_in = stands_in (after [] old_turns) (after (after [] walk_turns) halted_turns) names refl
