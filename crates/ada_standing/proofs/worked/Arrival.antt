-- Worked pairs. Two calls in a queue, which are met in the order of their arrival (9.5).
use Rattle.std.specs.Prelude.{◌≡◌, ◌<◌, true, false, Some, None, List, [], ◌∷◌, pos, refl}
use Rattle.std.proofs.Common.{arith}
use Rattle.ada_events.specs.declared.request.Request.TheVariants.{Create, Activate, Call}
use Rattle.ada_events.specs.declared.event.Event.TheVariants.{Created, Started, Called, Activated}
use Rattle.ada_events.specs.declared.names.Patience.TheVariants.{Simple}
use Rattle.ada_laws.specs.Suspension.{IsSuspendedAt}
use Rattle.ada_standing.specs.Names.{Names, renaming_of}
use Rattle.ada_standing.specs.StandsIn.{StandsIn}
use Rattle.ada_standing.proofs.Deciding.{stands}
use Rattle.ada_standing.proofs.Decided.{stands_in}
use Rattle.ada_events.proofs.worked.Turns.{Turn, accepted, after, IsPlayed, asks_end, ended, main, task, body, single, entry}
use Rattle.ada_standing.proofs.worked.Pairs.{everything, place}

-- a server and two clients
abbrev clients_turns : List Turn
clients_turns =
    accepted (Create main (body main) (single ∷ []))
    (Created main (body main) (body main) (single ∷ []) ∷ []) ∷
    accepted (Create main (body main) [])
    (Created main (body main) (body main) [] ∷ []) ∷
    accepted (Create main (body main) [])
    (Created main (body main) (body main) [] ∷ []) ∷
    accepted (Activate main ((task 1) ∷ (task 2) ∷ (task 3) ∷ []))
    (Started main ((task 1) ∷ (task 2) ∷ (task 3) ∷ []) ∷ []) ∷
    accepted (asks_end (task 1) true)
    (ended (task 1) true ∷ []) ∷
    accepted (asks_end (task 2) true)
    (ended (task 2) true ∷ []) ∷
    accepted (asks_end (task 3) true)
    (ended (task 3) true ∷ Activated 4 true ∷ []) ∷
    []

clients_played : IsPlayed [] clients_turns
unfolding everything
clients_played = refl

-- the first client calls first
abbrev old_turns : List Turn
old_turns =
    accepted (Call (task 2) (task 1) (entry 0 (pos 0)) Simple)
    (Called (task 2) (task 1) (entry 0 (pos 0)) Simple None ∷ []) ∷
    accepted (Call (task 3) (task 1) (entry 0 (pos 0)) Simple)
    (Called (task 3) (task 1) (entry 0 (pos 0)) Simple None ∷ []) ∷
    []

old_played : IsPlayed (after [] clients_turns) old_turns
unfolding everything
old_played = refl

-- the journal stands in for itself
abbrev same_names : Names
same_names = record {
  tasks = Some main ∷ Some (task 1) ∷ Some (task 2) ∷ Some (task 3) ∷ [];
  places = place 9 9 ∷ place 10 10 ∷ [];
}

old_stands_in : StandsIn (after (after [] clients_turns) old_turns) (after (after [] clients_turns) old_turns) (renaming_of same_names)
unfolding everything
old_stands_in = stands_in (after (after [] clients_turns) old_turns) (after (after [] clients_turns) old_turns) same_names refl

-- the wrong one: the second client calls first
abbrev wrong_turns : List Turn
wrong_turns =
    accepted (Call (task 3) (task 1) (entry 0 (pos 0)) Simple)
    (Called (task 3) (task 1) (entry 0 (pos 0)) Simple None ∷ []) ∷
    accepted (Call (task 2) (task 1) (entry 0 (pos 0)) Simple)
    (Called (task 2) (task 1) (entry 0 (pos 0)) Simple None ∷ []) ∷
    []

wrong_played : IsPlayed (after [] clients_turns) wrong_turns
unfolding everything
wrong_played = refl

abbrev wrong_names : Names
wrong_names = record {
  tasks = Some main ∷ Some (task 1) ∷ Some (task 2) ∷ Some (task 3) ∷ [];
  places = place 9 10 ∷ place 10 9 ∷ [];
}

wrong_is_told : stands (after (after [] clients_turns) old_turns) (after (after [] clients_turns) wrong_turns) wrong_names ≡ false
unfolding everything
wrong_is_told = refl

first_client_waits : IsSuspendedAt (after (after [] clients_turns) old_turns) 2 9
unfolding everything
first_client_waits = record {
  event = Called (task 2) (task 1) (entry 0 (pos 0)) Simple None;
  stands = refl;
  holds = refl;
  unreleased = refl;
  live = refl;
}

second_client_waits : IsSuspendedAt (after (after [] clients_turns) old_turns) 3 10
unfolding everything
second_client_waits = record {
  event = Called (task 3) (task 1) (entry 0 (pos 0)) Simple None;
  stands = refl;
  holds = refl;
  unreleased = refl;
  live = refl;
}

-- the order of the calls isn't kept
wrong_stands_in_not : StandsIn (after (after [] clients_turns) old_turns) (after (after [] clients_turns) wrong_turns) (renaming_of wrong_names) → ⊥
unfolding everything first_client_waits second_client_waits
wrong_stands_in_not stands =
    let kept : 10 < 9 = stands.positions.holds 2 3 9 10 10 9 first_client_waits second_client_waits refl refl refl (omega arith) in
    absurd (omega (arith, kept))
