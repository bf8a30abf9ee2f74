-- The history of a board: the list of all boards that were offered, of which every thread may know a
-- beginning. It exists in proofs alone; its one word in memory is its length.
use Rattle.std.specs.Prelude.{ℕ, ◌≡◌, ◌==◌, true, List, [], ◌∷◌, ◌++◌, length, MatchBool}
use Rattle.logbook.specs.Pages.{Cell, Step, View, Book}
use Rattle.ada_events.specs.declared.board.Board.{Board}
use Rattle.ada_events.specs.Boards.{AreTrue}

-- the first word is the length of the history, which is true. A book has two words, of which this one
-- leaves the second at 0
pub record IsHistoryIn (cells : List Cell) (history : List Board) : Type 0 where
  pub words : cells ≡ (length history, true) ∷ (0, true) ∷ []
  pub true_list : AreTrue history

-- the board was added to all that had been seen; or the history was found to be longer
abbrev pub AddsBoard : Step Board → View Board ℕ → ℕ → View Board ℕ → Type 0
AddsBoard step before found after = MatchBool (found == step.old) ((after.0 ≡ before.0 ++ step.ask ∷ []) × AreTrue after.0) (Unit {0})

-- what is known of a history: which one it is, and a beginning of it
pub record KnownHistory : Type 0 where
  pub book : Book
  pub boards : List Board
