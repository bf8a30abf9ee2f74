-- The causes for which a request is refused that have to do with moments and limits.
use Rattle.std.specs.Prelude.{ℕ, ℤ, Bool, false, nat_lt, nat_le, ◌&&◌, ◌+◌, List, [], ◌∷◌, length, int_lt}
use Rattle.std.specs.Option.{option_map_or}
use Rattle.std.specs.List.{list_any}
use Rattle.ada_events.specs.declared.limits.TheConstants.{MOST_TASKS, MOST_SLOTS, MOST_MEMBERS, MOST_EVENTS, MOST_APPENDED, LAST_MOMENT}
use Rattle.ada_events.specs.declared.event.Event.{Event}
use Rattle.ada_events.specs.declared.request.Request.{Request}
use Rattle.ada_events.specs.declared.request.Request.TheVariants.{Open, Create, Call, Wait, Delay, Tick}
use Rattle.ada_events.specs.declared.request.Tail.TheVariants.{Delays}
use Rattle.ada_events.specs.declared.names.Patience.TheVariants.{Timed}
use Rattle.ada_events.specs.declared.names.Pause.{Pause}
use Rattle.ada_events.specs.Says.{Creation, creation_in}
use Rattle.ada_events.specs.Entries.{entries_in}
use Rattle.ada_events.specs.Tasks.{task_count, moment}
use Rattle.ada_events.specs.Nests.{nest}
use Rattle.ada_events.specs.Asks.{due_after}

-- a tick to less than the moment
unfoldable pub moves_back : List Event → Request → Bool
moves_back journal (Tick now) = int_lt now (moment journal)
moves_back journal _ = false

-- a duration from a moment on ends behind the last moment
abbrev pub ends_too_late : ℤ → ℤ → Bool
ends_too_late now duration = int_lt LAST_MOMENT (due_after now duration)

-- a tick, or the due moment of a timed call, a delay or an open delay alternative, behind the last moment
unfoldable pub is_too_late : List Event → Request → Bool
is_too_late journal (Tick now) = int_lt LAST_MOMENT now
is_too_late journal (Call by callee entry (Timed duration)) = ends_too_late (moment journal) duration
is_too_late journal (Delay by duration) = ends_too_late (moment journal) duration
is_too_late journal (Wait by choices (Delays pauses) pick) =
    list_any (λ (d : Pause). d.guard && ends_too_late (moment journal) d.duration) pauses
is_too_late journal _ = false

-- a creation where the limit of tasks is reached
unfoldable pub makes_too_many_tasks : List Event → Request → Bool
makes_too_many_tasks journal (Create by master families) = nat_le MOST_TASKS (task_count journal)
makes_too_many_tasks journal _ = false

-- how many entries all tasks have
unfoldable pub slot_count : List Event → ℕ
slot_count [] = 0
slot_count (event ∷ before) = option_map_or (λ (c : Creation). entries_in c.families) (creation_in event) 0 + slot_count before

-- a creation whose entries would pass the limit
unfoldable pub makes_too_many_slots : List Event → Request → Bool
makes_too_many_slots journal (Create by master families) = nat_lt MOST_SLOTS (slot_count journal + entries_in families)
makes_too_many_slots journal _ = false

-- an opening or a wait in a nest that has its most members
unfoldable pub is_too_deep : List Event → Request → Bool
is_too_deep journal (Open by) = nat_le MOST_MEMBERS (length (nest journal by.0))
is_too_deep journal (Wait by choices tail pick) = nat_le MOST_MEMBERS (length (nest journal by.0))
is_too_deep journal _ = false

-- the journal hasn't room for the most events that one request appends
unfoldable pub is_full : List Event → Bool
is_full journal = nat_lt MOST_EVENTS (length journal + MOST_APPENDED)
