-- Searching a journal. Its newest event comes first, so in `event ∷ before` the event came after all of
-- `before` and stands at position `length before + 1`, and `before` is the journal as it was.
use Rattle.std.specs.Prelude.{ℕ, zero, suc, Bool, true, false, ◌&&◌, ◌||◌, ◌==◌, if◌then◌else◌, Option, Some, None, List, [], ◌∷◌, ◌++◌, length}
use Rattle.std.specs.Option.{option_map_or, option_or, option_to_list}
use Rattle.ada_events.specs.declared.event.Event.{Event}

-- whether this is the number
abbrev pub is_number : ℕ → Option ℕ → Bool
is_number n None = false
is_number n (Some m) = n == m

-- there is one, and it passes
abbrev pub is_some_and : {A : Type 0} → Option A → (A → Bool) → Bool
is_some_and found test = option_map_or test found false

-- whether an event passes, given its position
unfoldable pub any_event : (ℕ → Event → Bool) → List Event → Bool
any_event test [] = false
any_event test (event ∷ before) = test (suc (length before)) event || any_event test before

-- what the earliest event gives that gives something
unfoldable pub first_given : {A : Type 0} → (ℕ → Event → Option A) → List Event → Option A
first_given give [] = None
first_given give (event ∷ before) = option_or (first_given give before) (give (suc (length before)) event)

-- what the events give, the earliest first
unfoldable pub gathered : {A : Type 0} → (ℕ → Event → Option A) → List Event → List A
gathered give [] = []
gathered give (event ∷ before) = gathered give before ++ option_to_list (give (suc (length before)) event)

-- the event at a position
unfoldable pub event_at : List Event → ℕ → Option Event
event_at [] position = None
event_at (event ∷ before) position = if position == suc (length before) then Some event else event_at before position

-- what the least number below a bound gives that gives something
unfoldable pub first_below : {A : Type 0} → (ℕ → Option A) → ℕ → Option A
first_below give zero = None
first_below give (suc n) = option_or (first_below give n) (give n)

-- whether all numbers below a bound pass
unfoldable pub all_below : (ℕ → Bool) → ℕ → Bool
all_below test zero = true
all_below test (suc n) = all_below test n && test n
