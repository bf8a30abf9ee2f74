-- Which tasks of the present journal were terminated before the last request, as a kernel that lives on keeps it.
use Rattle.std.specs.Prelude.{◌≡◌, ◌⊎◌, ℕ, Bool, true, false, not, ◌&&◌, ◌-◌, nat_le, Option, List, [], length, take, drop, slice_index_or}
use Rattle.std.specs.Bool.{then_some}
use Rattle.std.specs.List.{list_any}
use Rattle.ada_events.specs.declared.event.Event.{Event}
use Rattle.ada_events.specs.declared.event.Event.TheVariants.{Gone, Quit}
use Rattle.ada_events.specs.declared.limits.TheConstants.{MOST_TASKS}
use Rattle.ada_events.specs.Boards.{listed}
use Rattle.ada_events.specs.Phases.{is_terminated}

-- of each task that there may be, whether it is terminated
abbrev pub ended_in : List Event → List Bool
ended_in journal = listed MOST_TASKS (is_terminated journal)

-- the event terminates tasks
unfoldable pub is_end : Event → Bool
is_end (Gone task) = true
is_end (Quit master) = true
is_end _ = false

-- the events of a journal from one on, the newest first
abbrev pub events_from : ℕ → List Event → List Event
events_from from journal = take (length journal - from) journal

-- the flags tell who was terminated before these events, if there are any; one event alone terminates nobody
pub record KnowsEnded (flags : List Bool) (from : ℕ) (journal : List Event) : Type 0 where
  pub before : (events_from from journal ≡ []) ⊎ (flags ≡ ended_in (drop (length (events_from from journal)) journal))
  pub one : length (events_from from journal) ≡ 1 → list_any is_end (events_from from journal) ≡ false

-- the task itself, if it has the number or more, is terminated and isn't flagged
abbrev pub newly_ended : List Bool → List Event → ℕ → ℕ → Option ℕ
newly_ended flags journal from task =
    then_some (nat_le from task && (is_terminated journal task && not (slice_index_or flags task false))) task
