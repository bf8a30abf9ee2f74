-- How many requests were accepted: the number of asked events of a journal.
use Rattle.std.specs.Prelude.{ℕ, ◌+◌, Bool, true, false, if◌then◌else◌, List, [], ◌∷◌}
use Rattle.ada_events.specs.declared.event.Event.{Event}
use Rattle.ada_events.specs.declared.event.Event.TheVariants.{Halted, Failed, Met, Cancelled, Passed, Woken, Activated, Gone, Quit, Left}

-- the event is what a request became, and no forced step
unfoldable pub is_asked : Event → Bool
is_asked (Halted _) = false
is_asked (Failed _) = false
is_asked (Met _ _) = false
is_asked (Cancelled _) = false
is_asked (Passed _ _) = false
is_asked (Woken _) = false
is_asked (Activated _ _) = false
is_asked (Gone _) = false
is_asked (Quit _) = false
is_asked (Left _) = false
is_asked _ = true

unfoldable pub asked_count : List Event → ℕ
asked_count [] = 0
asked_count (event ∷ before) = asked_count before + (if is_asked event then 1 else 0)
