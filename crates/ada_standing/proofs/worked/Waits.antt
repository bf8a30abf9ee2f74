-- Worked pairs. Two servers that wait: which one waited first counts only if both have an open delay alternative.
use Rattle.std.specs.Prelude.{◌≡◌, true, false, Some, List, [], ◌∷◌, pos, refl}
use Rattle.ada_events.specs.declared.event.Event.{Event}
use Rattle.ada_events.specs.declared.request.Request.TheVariants.{Create, Activate, Wait}
use Rattle.ada_events.specs.declared.request.Tail.TheVariants.{Nothing, Delays}
use Rattle.ada_events.specs.declared.event.Event.TheVariants.{Created, Started, Waiting, Activated}
use Rattle.ada_events.specs.declared.event.EventTail.TheVariants.{Nothing as NoTail, Delays as DelayParts}
use Rattle.ada_events.specs.declared.names.TaskNo.{TaskNo}
use Rattle.ada_standing.specs.Names.{Names, renaming_of}
use Rattle.ada_standing.specs.StandsIn.{StandsIn}
use Rattle.ada_standing.proofs.Deciding.{stands}
use Rattle.ada_standing.proofs.Decided.{stands_in}
use Rattle.ada_events.proofs.worked.Turns.{Turn, accepted, after, IsPlayed, asks_end, ended, main, task, body, single, entry, open_choice, open_delay}
use Rattle.ada_standing.proofs.worked.Pairs.{everything, place}

-- two servers of an entry each
abbrev servers_turns : List Turn
servers_turns =
    accepted (Create main (body main) (single ∷ []))
    (Created main (body main) (body main) (single ∷ []) ∷ []) ∷
    accepted (Create main (body main) (single ∷ []))
    (Created main (body main) (body main) (single ∷ []) ∷ []) ∷
    accepted (Activate main ((task 1) ∷ (task 2) ∷ []))
    (Started main ((task 1) ∷ (task 2) ∷ []) ∷ []) ∷
    accepted (asks_end (task 1) true)
    (ended (task 1) true ∷ []) ∷
    accepted (asks_end (task 2) true)
    (ended (task 2) true ∷ Activated 3 true ∷ []) ∷
    []

-- both wait, the one first and then the other
abbrev waits : TaskNo → TaskNo → List Turn
waits first second =
    accepted (Wait first (open_choice (entry 0 (pos 0)) ∷ []) Nothing 0)
    (Waiting first 0 (open_choice (entry 0 (pos 0)) ∷ []) NoTail ∷ []) ∷
    accepted (Wait second (open_choice (entry 0 (pos 0)) ∷ []) Nothing 0)
    (Waiting second 0 (open_choice (entry 0 (pos 0)) ∷ []) NoTail ∷ []) ∷
    []

-- each until the same moment
abbrev timed_waits : TaskNo → TaskNo → List Turn
timed_waits first second =
    accepted (Wait first (open_choice (entry 0 (pos 0)) ∷ []) (Delays (open_delay (pos 10) ∷ [])) 0)
    (Waiting first 0 (open_choice (entry 0 (pos 0)) ∷ []) (DelayParts (Some (pos 10) ∷ [])) ∷ []) ∷
    accepted (Wait second (open_choice (entry 0 (pos 0)) ∷ []) (Delays (open_delay (pos 10) ∷ [])) 0)
    (Waiting second 0 (open_choice (entry 0 (pos 0)) ∷ []) (DelayParts (Some (pos 10) ∷ [])) ∷ []) ∷
    []

-- the servers, and then these turns
abbrev with_servers : List Turn → List Event
with_servers turns = after (after [] servers_turns) turns

servers_played : IsPlayed [] servers_turns
unfolding everything
servers_played = refl

waits_played : IsPlayed (after [] servers_turns) (waits (task 1) (task 2))
unfolding everything
waits_played = refl

other_waits_played : IsPlayed (after [] servers_turns) (waits (task 2) (task 1))
unfolding everything
other_waits_played = refl

timed_waits_played : IsPlayed (after [] servers_turns) (timed_waits (task 1) (task 2))
unfolding everything
timed_waits_played = refl

other_timed_waits_played : IsPlayed (after [] servers_turns) (timed_waits (task 2) (task 1))
unfolding everything
other_timed_waits_played = refl

-- each task is itself, so the earlier wait stands for the later one
abbrev names : Names
names = record {
  tasks = Some main ∷ Some (task 1) ∷ Some (task 2) ∷ [];
  places = place 7 8 ∷ place 8 7 ∷ [];
}

other_order_stands_in : StandsIn (with_servers (waits (task 1) (task 2))) (with_servers (waits (task 2) (task 1))) (renaming_of names)
unfolding everything
other_order_stands_in = stands_in (with_servers (waits (task 1) (task 2))) (with_servers (waits (task 2) (task 1))) names refl

-- where a tick lets both go on, the earlier one goes first
other_timed_order_does_not : stands (with_servers (timed_waits (task 1) (task 2))) (with_servers (timed_waits (task 2) (task 1))) names ≡ false
unfolding everything
other_timed_order_does_not = refl
