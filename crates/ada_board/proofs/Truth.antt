-- True lists, and the first of them.
use Rattle.std.proofs.Common.{◌≡◌, ℕ, true, List, [], ◌∷◌, ◌++◌, length, refl, sym, ap, ◌∙◌, subst}
use Rattle.ada_events.specs.declared.board.Board.{Board}
use Rattle.ada_events.specs.Boards.{AreTrue, board_of}
use Rattle.ada_laws.proofs.boards.ShowingLaws.{no_boards_are_true}
use Rattle.ada_board.specs.Answers.{latest_behind, latest}
use Rattle.ada_board.specs.Histories.{IsHistoryIn}
use Rattle.ada_board.specs.internal.Histories.{IsEdition}

pub nothing_is_true : AreTrue []
nothing_is_true = ([], no_boards_are_true [] tt)

pub kept_at_first : IsHistoryIn ((0, true) ∷ (0, true) ∷ []) []
kept_at_first = record { words = refl; true_list = nothing_is_true }

-- the last board of a list is the one that was added
pub latest_added : (before : Board) (boards : List Board) (board : Board) → latest_behind before (boards ++ board ∷ []) ≡ board
latest_added before [] board = refl
latest_added before (b ∷ boards) board = latest_added b boards board

pub first_edition : (number : ℕ) (board : Board) (boards : List Board) → number ≡ 0 → board ≡ board_of [] → boards ≡ [] → IsEdition number board boards
first_edition number board boards none opening empty = record {
  counted = none ∙ sym (ap length empty);
  newest = opening ∙ sym (ap latest empty);
  true_list = let P : List Board → Type 0 = λ l. AreTrue l in subst P (sym empty) nothing_is_true;
}
