-- What a selective wait may take (9.7.1): a queued call at an open choice, its else part, or a delay
-- alternative that is due; and the moment for which a task waits.
use Rattle.std.specs.Prelude.{ℕ, suc, ℤ, Bool, true, false, ◌&&◌, ◌%◌, if◌then◌else◌, Option, Some, None, List, [], ◌∷◌, length, slice_get, int_le, int_lt}
use Rattle.std.specs.Option.{option_map, option_and_then, is_some}
use Rattle.std.specs.List.{list_any}
use Rattle.ada_events.specs.declared.event.Event.{Event}
use Rattle.ada_events.specs.declared.event.Event.TheVariants.{Called, Waiting, Paused}
use Rattle.ada_events.specs.declared.event.EventTail.{EventTail}
use Rattle.ada_events.specs.declared.event.EventTail.TheVariants.{Nothing, Otherwise, Delays, Terminate}
use Rattle.ada_events.specs.declared.event.Way.{Way}
use Rattle.ada_events.specs.declared.event.Way.TheVariants.{Otherwise as ByElse, Delay, ProgramError}
use Rattle.ada_events.specs.declared.names.Choice.{Choice}
use Rattle.ada_events.specs.Says.{Wait}
use Rattle.ada_events.specs.Calls.{queue}

-- number `pick % k` of k alternatives, none where there is none
abbrev pub picked : {A : Type 0} → ℕ → List A → Option A
picked pick alternatives = slice_get alternatives (pick % length alternatives)

-- the numbers of the items that pass, counted over all from this one
unfoldable pub numbers_from : {A : Type 0} → (A → Bool) → ℕ → List A → List ℕ
numbers_from test n [] = []
numbers_from test n (item ∷ rest) = if test item then n ∷ numbers_from test (suc n) rest else numbers_from test (suc n) rest

-- the call at the front of an open choice's queue
unfoldable pub front_of : List Event → ℕ → Choice → Option ℕ
front_of journal task choice =
    if choice.guard then slice_get (queue journal task choice.entry) 0 else None

-- a call is at the front of an open choice's queue
unfoldable pub is_selectable : List Event → ℕ → Choice → Bool
is_selectable journal task choice = is_some (front_of journal task choice)

-- the choice by which a wait takes a call, counted over all of its choices from 0: of the k selectable
-- ones number `pick % k` in text order
unfoldable pub taken_choice : List Event → Wait → Option ℕ
taken_choice journal wait = picked wait.pick (numbers_from (is_selectable journal wait.by) 0 wait.choices)

-- the call that a wait takes: the one at the front of that choice's queue
unfoldable pub taken_call : List Event → Wait → Option ℕ
taken_call journal wait =
    option_and_then (front_of journal wait.by) (option_and_then (slice_get wait.choices) (taken_choice journal wait))

-- a choice is open
abbrev pub has_open_choice : List Choice → Bool
has_open_choice = list_any (λ (c : Choice). c.guard)

-- a delay alternative is open: a closed one has no due moment
abbrev pub has_open_delay : List (Option ℤ) → Bool
has_open_delay = list_any (λ (due : Option ℤ). is_some due)

-- the due moment, where there is one, has come
abbrev pub is_due : ℤ → Option ℤ → Bool
is_due now None = false
is_due now (Some due) = int_le due now

-- the due moment is that moment
abbrev pub is_due_exactly : Option ℤ → Option ℤ → Bool
is_due_exactly (Some moment) (Some due) = int_le due moment && int_le moment due
is_due_exactly _ _ = false

-- the earlier of two moments, where there are two
unfoldable pub earlier : Option ℤ → Option ℤ → Option ℤ
earlier None b = b
earlier (Some m) None = Some m
earlier (Some m) (Some n) = Some (if int_lt n m then n else m)

-- the least due moment of the open delay alternatives
unfoldable pub least_due : List (Option ℤ) → Option ℤ
least_due [] = None
least_due (due ∷ rest) = earlier due (least_due rest)

-- the least due moment of a wait's delay alternatives, which are the last part of it (9.7.1)
abbrev pub tail_due : EventTail → Option ℤ
tail_due (Delays dues) = least_due dues
tail_due _ = None

-- the moment at which an event lets go on the task that it holds up: a queued timed call (9.7.3), so not one with which a
-- rendezvous began, a delay (9.6), or the first of a wait's delay alternatives (9.7.1)
unfoldable pub due_by : Bool → Event → Option ℤ
due_by met (Called by callee entry patience due) = if met then None else due
due_by met (Waiting by pick choices tail) = tail_due tail
due_by met (Paused by due) = Some due
due_by met _ = None

-- the delay alternative that a wait takes, counted over all from 0, once the least due moment has come: of
-- the k that are due at that very moment number `pick % k`
unfoldable pub taken_delay : ℤ → ℕ → List (Option ℤ) → Option ℕ
taken_delay now pick dues =
    if is_due now (least_due dues) then picked pick (numbers_from (is_due_exactly (least_due dues)) 0 dues) else None

-- PROGRAM_ERROR where no choice is open
abbrev pub without_choice : List Choice → Option Way
without_choice choices = if has_open_choice choices then None else Some ProgramError

-- the way in which a wait with these choices, this tail and this pick ends at a moment, while no call is
-- to be taken: by its else part, by a delay alternative that is due, or by PROGRAM_ERROR where no
-- alternative is open
unfoldable pub way_of : ℤ → List Choice → ℕ → EventTail → Option Way
way_of now choices pick Nothing = without_choice choices
way_of now choices pick Otherwise = Some ByElse
way_of now choices pick (Terminate true) = None
way_of now choices pick (Terminate false) = without_choice choices
way_of now choices pick (Delays dues) =
    if has_open_delay dues then option_map Delay (taken_delay now pick dues) else without_choice choices
