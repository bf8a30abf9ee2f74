-- Boards: the attributes of all tasks and entries at one time (9.9), and which lists of boards a journal
-- can have shown.
use Rattle.std.specs.Prelude.{◌≡◌, ℕ, nat_lt, Bool, ◌&&◌, ◌-◌, ◌<◌, ◌≤◌, if◌then◌else◌, List, length, map, drop}
use Rattle.std.specs.List.{range_with_len, All, AllPairs}
use Rattle.ada_events.specs.declared.limits.TheConstants.{MOST_TASKS, MOST_SLOTS}
use Rattle.ada_events.specs.declared.event.Event.{Event}
use Rattle.ada_events.specs.declared.board.Board.{Board}
use Rattle.ada_events.specs.Tasks.{task_count, has_task}
use Rattle.ada_events.specs.Phases.{is_terminated}
use Rattle.ada_events.specs.Limits.{slot_count}
use Rattle.ada_events.specs.Attributes.{is_callable}
use Rattle.ada_events.specs.Slots.{count_at}
use Rattle.ada_events.specs.Lawful.{IsLawful, IsSettled}

-- what a function gives for each number below a bound
unfoldable pub listed : {A : Type 0} → ℕ → (ℕ → A) → List A
listed n f = map f (range_with_len 0 n)

-- whether there is a task of that number, and it is callable
unfoldable pub shows_callable : List Event → ℕ → Bool
shows_callable journal task = has_task journal task && is_callable journal task

-- whether there is a task of that number, and it is terminated
unfoldable pub shows_terminated : List Event → ℕ → Bool
shows_terminated journal task = has_task journal task && is_terminated journal task

-- COUNT of the entry at a slot, where there is one
unfoldable pub shows_count : List Event → ℕ → ℕ
shows_count journal slot = if nat_lt slot (slot_count journal) then count_at journal slot else 0

-- the board of a journal
unfoldable pub board_of : List Event → Board
board_of journal = record {
  tasks = task_count journal;
  slots = slot_count journal;
  events = length journal;
  callable = listed MOST_TASKS (shows_callable journal);
  terminated = listed MOST_TASKS (shows_terminated journal);
  counts = listed MOST_SLOTS (shows_count journal);
}

-- the first so many events of a journal
abbrev pub first_events : ℕ → List Event → List Event
first_events n journal = drop (length journal - n) journal

-- the board is that of the first so many events as it says, after which nothing is forced
pub record IsShownBy (journal : List Event) (board : Board) : Type 0 where
  pub within : board.events ≤ length journal
  pub settled : IsSettled (first_events board.events journal)
  pub shows : board ≡ board_of (first_events board.events journal)

-- the boards are true of a journal: it is lawful, they come in its order, and each is of its own time
pub record AreTrueOf (journal : List Event) (boards : List Board) : Type 0 where
  pub lawful : IsLawful journal
  pub rise : AllPairs (λ (a : Board) (b : Board). a.events < b.events) boards
  pub each : All (IsShownBy journal) boards

-- the boards are true of some journal
abbrev pub AreTrue : List Board → Type 0
AreTrue boards = (journal : List Event) × AreTrueOf journal boards
