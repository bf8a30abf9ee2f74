-- Worked pairs. A pending start, one of whose tasks failed: the activation will end by TASKING_ERROR (9.3).
use Rattle.std.specs.Prelude.{◌≡◌, true, false, Some, None, List, [], ◌∷◌, refl}
use Rattle.ada_events.specs.declared.request.Request.TheVariants.{Create, Activate, Complete}
use Rattle.ada_events.specs.declared.event.Event.TheVariants.{Created, Started, Completed, Activated, Gone}
use Rattle.ada_standing.specs.Renaming.{Renaming}
use Rattle.ada_standing.specs.Names.{Names, renaming_of}
use Rattle.ada_standing.specs.StandsIn.{StandsIn}
use Rattle.ada_standing.proofs.Deciding.{stands}
use Rattle.ada_standing.proofs.Decided.{stands_in}
use Rattle.ada_standing.proofs.Unmatched.{failure_forgotten}
use Rattle.ada_events.proofs.worked.Turns.{Turn, accepted, after, IsPlayed, asks_end, ended, main, task, body}
use Rattle.ada_standing.proofs.worked.Pairs.{everything, place}

-- a task comes and goes; of two more, activated together, the first fails, and the second is still in its activation
abbrev old_turns : List Turn
old_turns =
    accepted (Create main (body main) [])
    (Created main (body main) (body main) [] ∷ []) ∷
    accepted (Activate main ((task 1) ∷ []))
    (Started main ((task 1) ∷ []) ∷ []) ∷
    accepted (asks_end (task 1) true)
    (ended (task 1) true ∷ Activated 2 true ∷ []) ∷
    accepted (Complete (task 1))
    (Completed (task 1) ∷ Gone (task 1) ∷ []) ∷
    accepted (Create main (body main) [])
    (Created main (body main) (body main) [] ∷ []) ∷
    accepted (Create main (body main) [])
    (Created main (body main) (body main) [] ∷ []) ∷
    accepted (Activate main ((task 2) ∷ (task 3) ∷ []))
    (Started main ((task 2) ∷ (task 3) ∷ []) ∷ []) ∷
    accepted (asks_end (task 2) false)
    (ended (task 2) false ∷ Gone (task 2) ∷ []) ∷
    []

old_played : IsPlayed [] old_turns
unfolding everything
old_played = refl

-- the right one: a helper fails in that start, and is gone
abbrev right_turns : List Turn
right_turns =
    accepted (Create main (body main) [])
    (Created main (body main) (body main) [] ∷ []) ∷
    accepted (Create main (body main) [])
    (Created main (body main) (body main) [] ∷ []) ∷
    accepted (Activate main ((task 1) ∷ (task 2) ∷ []))
    (Started main ((task 1) ∷ (task 2) ∷ []) ∷ []) ∷
    accepted (asks_end (task 2) false)
    (ended (task 2) false ∷ Gone (task 2) ∷ []) ∷
    []

right_played : IsPlayed [] right_turns
unfolding everything
right_played = refl

abbrev right_names : Names
right_names = record {
  tasks = Some main ∷ None ∷ None ∷ Some (task 1) ∷ [];
  places = place 9 3 ∷ [];
}

right_stands_in : StandsIn (after [] old_turns) (after [] right_turns) (renaming_of right_names)
unfolding everything
right_stands_in = stands_in (after [] old_turns) (after [] right_turns) right_names refl

-- the wrong one: the failure is forgotten, and the activation would end well
abbrev wrong_turns : List Turn
wrong_turns =
    accepted (Create main (body main) [])
    (Created main (body main) (body main) [] ∷ []) ∷
    accepted (Activate main ((task 1) ∷ []))
    (Started main ((task 1) ∷ []) ∷ []) ∷
    []

wrong_played : IsPlayed [] wrong_turns
unfolding everything
wrong_played = refl

abbrev wrong_names : Names
wrong_names = record {
  tasks = Some main ∷ None ∷ None ∷ Some (task 1) ∷ [];
  places = place 9 2 ∷ [];
}

wrong_is_told : stands (after [] old_turns) (after [] wrong_turns) wrong_names ≡ false
unfolding everything
wrong_is_told = refl

-- and other names don't help: no task failed there
wrong_stands_in_never : (names : Renaming) → StandsIn (after [] old_turns) (after [] wrong_turns) names → ⊥
unfolding everything
wrong_stands_in_never names stands =
    failure_forgotten (after [] old_turns) (after [] wrong_turns) names 0 0 9 main (task 2 ∷ task 3 ∷ []) refl refl refl refl refl (λ t. refl)
    stands.tasks.main stands
