-- Which board a list of boards shows, and what a board answers.
use Rattle.std.specs.Prelude.{ℕ, Bool, false, nat_lt, if◌then◌else◌, Option, Some, None, List, [], ◌∷◌, slice_index_or}
use Rattle.ada_events.specs.declared.board.Board.{Board}
use Rattle.ada_events.specs.Boards.{board_of}

-- the last board of a list, or where there is none the board before it
abbrev pub latest_behind : Board → List Board → Board
latest_behind before [] = before
latest_behind before (board ∷ boards) = latest_behind board boards

-- the board of a list: its last one, or that of the empty journal
abbrev pub latest : List Board → Board
latest boards = latest_behind (board_of []) boards

-- CALLABLE of a task, where the board has it
abbrev pub callable_on : Board → ℕ → Option Bool
callable_on board task = if nat_lt task board.tasks then Some (slice_index_or board.callable task false) else None

-- TERMINATED of a task, where the board has it
abbrev pub terminated_on : Board → ℕ → Option Bool
terminated_on board task = if nat_lt task board.tasks then Some (slice_index_or board.terminated task false) else None

-- COUNT of the entry at a slot, where the board has it
abbrev pub count_on : Board → ℕ → Option ℕ
count_on board slot = if nat_lt slot board.slots then Some (slice_index_or board.counts slot 0) else None
