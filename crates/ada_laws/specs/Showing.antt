-- Which lists of boards are true, as a journal grows.
use Rattle.std.specs.Prelude.{◌≡◌, ◌+◌, ◌<◌, ◌≤◌, None, List, [], ◌∷◌, ◌++◌, length}
use Rattle.ada_events.specs.declared.limits.TheConstants.{MOST_EVENTS}
use Rattle.ada_events.specs.declared.event.Event.{Event}
use Rattle.ada_events.specs.declared.board.Board.{Board}
use Rattle.ada_events.specs.declared.request.Request.{Request}
use Rattle.ada_events.specs.Refusals.{refusal}
use Rattle.ada_events.specs.Lawful.{IsLawful, IsSettled, After}
use Rattle.ada_events.specs.Boards.{AreTrueOf, AreTrue, board_of}

-- no boards are true of every lawful journal
abbrev pub NoBoardsAreTrue : Type 0
NoBoardsAreTrue = (journal : List Event) → IsLawful journal → AreTrueOf journal []

-- boards that are true of a journal are true of every lawful journal that begins with it
abbrev pub BoardsStayTrue : Type 0
BoardsStayTrue =
    (steps old : List Event) (boards : List Board) → AreTrueOf old boards → IsLawful (steps ++ old) → AreTrueOf (steps ++ old) boards

-- behind boards that are true of an older journal the board of a settled one may be shown
abbrev pub NewBoardsAreTrue : Type 0
NewBoardsAreTrue =
    (steps old : List Event) (boards : List Board) → AreTrueOf old boards → 0 < length steps
    → IsLawful (steps ++ old) → IsSettled (steps ++ old)
    → AreTrueOf (steps ++ old) (boards ++ board_of (steps ++ old) ∷ [])

-- so may the board of what a request leads to
abbrev pub AnswersAreShown : Type 0
AnswersAreShown =
    (old : List Event) (request : Request) (new : List Event) (boards : List Board) → AreTrueOf old boards
    → IsSettled old → refusal old request ≡ None → After old request new
    → AreTrueOf new (boards ++ board_of new ∷ [])

-- a true list has at most 65,537 boards: one for each number of events
abbrev pub TrueBoardsAreFew : Type 0
TrueBoardsAreFew = (boards : List Board) → AreTrue boards → length boards ≤ MOST_EVENTS + 1
