-- Who began to run and who was terminated by the last request: the one that appended the events that are shown. If none
-- are shown, nobody did or was.
use Rattle.std.specs.Prelude.{ℕ, Bool, not, ◌&&◌, nat_le, Option, List}
use Rattle.std.specs.Bool.{then_some}
use Rattle.ada_events.specs.declared.event.Event.{Event}
use Rattle.ada_events.specs.Search.{first_below}
use Rattle.ada_events.specs.Tasks.{task_count}
use Rattle.ada_events.specs.Phases.{is_running, is_terminated}
use Rattle.ada_lasting.specs.Following.{Long, before_shown}

-- the first task of a number or more of which something is so in a journal, and wasn't in what that was before
abbrev pub first_since : (List Event → ℕ → Bool) → List Event → List Event → ℕ → Option ℕ
first_since is_so before journal from =
    first_below (λ t. then_some (nat_le from t && (is_so journal t && not (is_so before t))) t) (task_count journal)

-- the first task of a number or more that runs, and didn't before the last request
abbrev pub first_began : List Event → Long → ℕ → Option ℕ
first_began journal kernel from = first_since is_running (before_shown journal kernel) journal from

-- the first task of a number or more that is terminated, and wasn't before the last request
abbrev pub first_ended : List Event → Long → ℕ → Option ℕ
first_ended journal kernel from = first_since is_terminated (before_shown journal kernel) journal from
