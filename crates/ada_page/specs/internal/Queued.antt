-- Which calls stay in their queues when an event comes, and which one comes.
use Rattle.std.specs.Prelude.{ℕ, suc, Bool, true, not, ◌==◌, List, [], ◌∷◌, length}
use Rattle.ada_events.specs.declared.event.Event.{Event}
use Rattle.ada_events.specs.declared.event.Event.TheVariants.{Called, Met, Ended, Failed, Cancelled, Halted}
use Rattle.ada_events.specs.Search.{is_number}
use Rattle.ada_tables.specs.Standing.{caller_of}

-- the call at a position stays in its queue when the event comes: it isn't met or released, nor is its caller halted
unfoldable pub stays : List Event → Event → ℕ → Bool
stays before (Met call wait) p = not (p == call)
stays before (Ended by call raised) p = not (p == call)
stays before (Failed call) p = not (p == call)
stays before (Cancelled call) p = not (p == call)
stays before (Halted task) p = not (is_number task.0 (caller_of before p))
stays before _ p = true

-- the position of the event, if it is a call
unfoldable pub newest_call : Event → List Event → List ℕ
newest_call (Called by callee entry patience due) before = suc (length before) ∷ []
newest_call _ before = []
