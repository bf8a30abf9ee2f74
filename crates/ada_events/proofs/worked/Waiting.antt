-- Worked journals. Selective waits, timed and conditional calls, delays.
use Rattle.std.specs.Prelude.{false, Some, None, List, [], ◌∷◌, pos, negsuc, refl}
use Rattle.ada_events.specs.declared.request.Request.TheVariants.{Call, Wait, Delay, End, Complete, Tick}
use Rattle.ada_events.specs.declared.request.Tail.TheVariants.{Nothing, Otherwise, Delays}
use Rattle.ada_events.specs.declared.event.Event.TheVariants.{Called, Waiting, Paused, Ended, Completed, Ticked, Failed, Met, Cancelled, Passed, Woken, Gone}
use Rattle.ada_events.specs.declared.event.EventTail.TheVariants.{Nothing as NoTail, Otherwise as ElsePart, Delays as DelayParts}
use Rattle.ada_events.specs.declared.event.Way.TheVariants.{Otherwise as ByElse, Delay as ByDelay, ProgramError}
use Rattle.ada_events.specs.declared.names.Patience.TheVariants.{Conditional, Timed}
use Rattle.ada_events.specs.declared.refusal.Refusal.TheVariants.{MomentBack, MomentTooLarge}
use Rattle.ada_events.proofs.worked.Turns.{Turn, accepted, refused, after, IsPlayed, everything, task, entry, open_choice, closed_choice, open_delay}
use Rattle.ada_events.proofs.worked.Turns.{closed_delay}
use Rattle.ada_events.proofs.worked.Rendezvous.{preamble_turns}

-- closed choices, an else part, delay alternatives
abbrev pub guards_and_delays_turns : List Turn
guards_and_delays_turns =
    accepted (Wait (task 1) (closed_choice (entry 0 (pos 0)) ∷ []) Nothing 0)
    (Waiting (task 1) 0 (closed_choice (entry 0 (pos 0)) ∷ []) NoTail ∷ Passed 9 ProgramError ∷ []) ∷
    accepted (Wait (task 1) (closed_choice (entry 0 (pos 0)) ∷ []) Otherwise 0)
    (Waiting (task 1) 0 (closed_choice (entry 0 (pos 0)) ∷ []) ElsePart ∷ Passed 11 ByElse ∷ []) ∷
    accepted (Wait (task 1) (closed_choice (entry 0 (pos 0)) ∷ []) (Delays (open_delay (negsuc 4) ∷ [])) 0)
    (Waiting (task 1) 0 (closed_choice (entry 0 (pos 0)) ∷ []) (DelayParts (Some (pos 0) ∷ [])) ∷ Passed 13 (ByDelay 0) ∷ []) ∷
    accepted (Wait (task 1) (open_choice (entry 0 (pos 0)) ∷ []) (Delays (open_delay (pos 20) ∷ closed_delay (pos 5) ∷ open_delay (pos 20) ∷ [])) 7)
    (Waiting (task 1) 7 (open_choice (entry 0 (pos 0)) ∷ []) (DelayParts (Some (pos 20) ∷ None ∷ Some (pos 20) ∷ [])) ∷ []) ∷
    accepted (Tick (pos 20))
    (Ticked (pos 20) ∷ Passed 15 (ByDelay 2) ∷ []) ∷
    []

guards_and_delays : IsPlayed (after [] preamble_turns) guards_and_delays_turns
unfolding everything
guards_and_delays = refl

-- timed calls and delays, up to the last moment
abbrev timed_calls_turns : List Turn
timed_calls_turns =
    accepted (Call (task 2) (task 1) (entry 0 (pos 0)) (Timed (pos 10)))
    (Called (task 2) (task 1) (entry 0 (pos 0)) (Timed (pos 10)) (Some (pos 10)) ∷ []) ∷
    accepted (Tick (pos 9))
    (Ticked (pos 9) ∷ []) ∷
    accepted (Tick (pos 10))
    (Ticked (pos 10) ∷ Cancelled 9 ∷ []) ∷
    refused (Tick (pos 9)) MomentBack ∷
    accepted (Call (task 2) (task 1) (entry 0 (pos 0)) (Timed (pos 8999999999990)))
    (Called (task 2) (task 1) (entry 0 (pos 0)) (Timed (pos 8999999999990)) (Some (pos 9000000000000)) ∷ []) ∷
    refused (Delay (task 3) (pos 8999999999991)) MomentTooLarge ∷
    accepted (Tick (pos 9000000000000))
    (Ticked (pos 9000000000000) ∷ Cancelled 13 ∷ []) ∷
    refused (Tick (pos 9000000000001)) MomentTooLarge ∷
    accepted (Delay (task 3) (pos 0))
    (Paused (task 3) (pos 9000000000000) ∷ Woken 16 ∷ []) ∷
    []

timed_calls : IsPlayed (after [] preamble_turns) timed_calls_turns
unfolding everything
timed_calls = refl

-- conditional calls
abbrev conditional_calls_turns : List Turn
conditional_calls_turns =
    accepted (Call (task 2) (task 1) (entry 0 (pos 0)) Conditional)
    (Called (task 2) (task 1) (entry 0 (pos 0)) Conditional None ∷ Cancelled 9 ∷ []) ∷
    accepted (Wait (task 1) (open_choice (entry 0 (pos 0)) ∷ []) Nothing 0)
    (Waiting (task 1) 0 (open_choice (entry 0 (pos 0)) ∷ []) NoTail ∷ []) ∷
    accepted (Call (task 2) (task 1) (entry 0 (pos 0)) Conditional)
    (Called (task 2) (task 1) (entry 0 (pos 0)) Conditional None ∷ Met 12 11 ∷ []) ∷
    accepted (End (task 1) false)
    (Ended (task 1) 12 false ∷ []) ∷
    accepted (Call (task 1) (task 1) (entry 0 (pos 0)) Conditional)
    (Called (task 1) (task 1) (entry 0 (pos 0)) Conditional None ∷ Cancelled 15 ∷ []) ∷
    accepted (Complete (task 1))
    (Completed (task 1) ∷ Gone (task 1) ∷ []) ∷
    accepted (Call (task 2) (task 1) (entry 0 (pos 0)) Conditional)
    (Called (task 2) (task 1) (entry 0 (pos 0)) Conditional None ∷ Failed 19 ∷ []) ∷
    []

conditional_calls : IsPlayed (after [] preamble_turns) conditional_calls_turns
unfolding everything
conditional_calls = refl

-- a negative duration counts as 0
abbrev negative_duration_turns : List Turn
negative_duration_turns =
    accepted (Call (task 2) (task 1) (entry 0 (pos 0)) (Timed (negsuc 9223372036854775807)))
    (Called (task 2) (task 1) (entry 0 (pos 0)) (Timed (negsuc 9223372036854775807)) (Some (pos 0)) ∷ Cancelled 9 ∷ []) ∷
    []

negative_duration : IsPlayed (after [] preamble_turns) negative_duration_turns
unfolding everything
negative_duration = refl

-- the duration of a closed delay alternative isn't looked at
abbrev closed_delay_unseen_turns : List Turn
closed_delay_unseen_turns =
    accepted (Wait (task 1) (open_choice (entry 0 (pos 0)) ∷ []) (Delays (closed_delay (pos 9223372036854775807) ∷ [])) 0)
    (Waiting (task 1) 0 (open_choice (entry 0 (pos 0)) ∷ []) (DelayParts (None ∷ [])) ∷ []) ∷
    []

closed_delay_unseen : IsPlayed (after [] preamble_turns) closed_delay_unseen_turns
unfolding everything
closed_delay_unseen = refl

-- the same alternative open is due too late
abbrev open_delay_too_late_turns : List Turn
open_delay_too_late_turns =
    refused (Wait (task 1) (open_choice (entry 0 (pos 0)) ∷ []) (Delays (open_delay (pos 9223372036854775807) ∷ [])) 0) MomentTooLarge ∷
    []

open_delay_too_late : IsPlayed (after [] preamble_turns) open_delay_too_late_turns
unfolding everything
open_delay_too_late = refl
