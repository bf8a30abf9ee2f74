-- The rule between any two steps of any threads, and what a step tells.
use Rattle.std.specs.Prelude.{◌≡◌, ℕ, List}
use mathlib.Core.List.{IsPrefix}
use mathlib.Core.Option.{some}
use lib.ListN.{get_elem?}
use Rattle.logbook.specs.Pages.{Book}
use Rattle.ada_events.specs.declared.board.Board.{Board}
use Rattle.ada_events.specs.Boards.{AreTrue}
use Rattle.ada_board.specs.Histories.{KnownHistory}

-- what is published is of this board, its list is true, and what each place has seen is a beginning of it
pub record IsPublic (book : Book) (published : KnownHistory) (seen : List (List Board)) : Type 0 where
  pub book_is : published.book ≡ book
  pub true_list : AreTrue published.boards
  pub each : (place : ℕ) (boards : List Board) → get_elem? seen place ≡ some boards → IsPrefix boards published.boards

-- a step from one published list to another, which it begins: the place has then seen the whole of that
pub record Follows (book : Book) (seen : List Board) (before after : KnownHistory) (now : List Board) : Type 0 where
  pub book_is : after.book ≡ book
  pub true_list : AreTrue after.boards
  pub grows : IsPrefix before.boards after.boards
  pub later : IsPrefix seen now
  pub whole : now ≡ after.boards
