-- The exchange that adds a board keeps the rule of a history.
use Rattle.std.proofs.Common.{◌≡◌, ℕ, ◌+◌, ◌<◌, ◌==◌, Bool, true, List, [], ◌∷◌, ◌++◌, length, MatchBool, ap, sym, ◌∙◌, subst, arith}
use Rattle.std.proofs.Common.{length-append}
use Rattle.std.proofs.lemmas.Bool.Decides.{nat_tests}
use Rattle.ada_events.specs.declared.board.Board.{Board}
use Rattle.ada_events.specs.Boards.{AreTrue, board_of}
use Rattle.ada_laws.proofs.boards.ShowingLaws.{true_boards_are_few}
use Rattle.ada_board.specs.Answers.{latest}
use Rattle.ada_board.specs.internal.Histories.{IsEdition}
use Rattle.ada_board.proofs.Truth.{latest_added}

abbrev pub shown : List Board → List Board
shown history = []

abbrev pub moved : List Board → List Board → ℕ → Type 0
moved xs ys n = Unit {0}

-- what an exchange tells that found what it expected
pub taken : {P : Type 0} (found old : ℕ) → found ≡ old → MatchBool (found == old) P (Unit {0}) → P
taken {P = P} found old same h =
    let is : (found == old) ≡ true = grind (arith, nat_tests) in
    let Q : Bool → Type 0 = λ b. MatchBool b P (Unit {0}) in subst Q is h

pub next_edition : (number : ℕ) (board asked : Board) (boards before now : List Board) → number ≡ length boards → before ≡ boards → asked ≡ board
    → (now ≡ before ++ asked ∷ []) × AreTrue now → IsEdition (number + 1) board now
next_edition number board asked boards before now counted from same (is, kept) =
    let whole : now ≡ boards ++ board ∷ [] = is ∙ (ap (λ l. l ++ asked ∷ []) from ∙ ap (λ b. boards ++ b ∷ []) same) in
    record {
      counted = let n : length now ≡ length (boards ++ board ∷ []) = ap length whole in omega (arith, n, counted, length-append boards (board ∷ []));
      newest = sym (ap latest whole ∙ latest_added (board_of []) boards board);
      true_list = kept;
    }

pub few_boards : (number : ℕ) (board : Board) (boards whole : List Board) → number ≡ length boards → boards ≡ whole → AreTrue (whole ++ board ∷ [])
    → number < 65537
few_boards number board boards whole counted same kept =
    omega (arith, true_boards_are_few (whole ++ board ∷ []) kept, length-append whole (board ∷ []), ap length same, counted)
