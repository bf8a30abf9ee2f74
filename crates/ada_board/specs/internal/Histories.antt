-- The history of a board: the list of all boards that were offered, of which every thread may know a
-- beginning. It exists in proofs alone; its one word in memory is its length.
use Rattle.std.specs.Prelude.{ℕ, ◌≡◌, true, List, length}
use Rattle.logbook.specs.Pages.{Book, Named}
use Rattle.ada_events.specs.declared.board.Board.{Board}
use Rattle.ada_events.specs.Boards.{AreTrue}
use Rattle.ada_board.specs.Answers.{latest}

-- the first word of a book
abbrev pub head_of : Book → Named
head_of book = record { tracked = true; key = 0; book = book }

-- the number of a list's boards, and its board
pub record IsEdition (number : ℕ) (board : Board) (boards : List Board) : Type 0 where
  pub counted : number ≡ length boards
  pub newest : board ≡ latest boards
  pub true_list : AreTrue boards
