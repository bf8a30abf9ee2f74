-- What every writer keeps.
use Rattle.std.specs.Prelude.{◌≡◌}
use mathlib.Core.List.{IsPrefix}
use Rattle.logbook.specs.Pages.{Book}
use Rattle.ada_events.specs.Boards.{AreTrue}
use Rattle.ada_board.specs.Histories.{KnownHistory}

-- the whole list is the history that was reached; it is true, begins with what is published, and is what
-- will be published next
pub record IsWriter (book : Book) (published next history : KnownHistory) : Type 0 where
  pub published_is : published.book ≡ book
  pub history_is : history.book ≡ book
  pub begun : IsPrefix published.boards history.boards
  pub true_list : AreTrue history.boards
  pub next_is : next ≡ history
