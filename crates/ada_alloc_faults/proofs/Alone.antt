-- The board of a journal may be offered where nothing was.
use Rattle.std.proofs.Common.{◌≡◌, List, [], ◌∷◌, ◌++◌, sym, ap, ◌∙◌, subst, arith}
use Rattle.std.proofs.lemmas.List.Elements.{All-push, All-nil}
use Rattle.ada_events.specs.declared.event.Event.{Event}
use Rattle.ada_events.specs.declared.board.Board.{Board}
use Rattle.ada_events.specs.Lawful.{IsLawful, IsSettled}
use Rattle.ada_events.specs.Boards.{IsShownBy, AreTrue, AreTrueOf, board_of}
use Rattle.ada_board.specs.Sights.{Posted}
use Rattle.ada_laws.proofs.boards.ShowingLaws.{newest_shown}

alone : (journal : List Event) → IsLawful journal → IsSettled journal → AreTrueOf journal (board_of journal ∷ [])
alone journal lawful settled = record {
  lawful = lawful;
  rise = λ i j d less below. absurd (omega arith);
  each = All-push (IsShownBy journal) [] (board_of journal) (All-nil (IsShownBy journal)) (newest_shown journal settled);
}

pub may_offer : (journal : List Event) (posted : Posted) (board : Board) → IsLawful journal → IsSettled journal
    → posted ≡ record { published = []; offered = [] } → board ≡ board_of journal
    → AreTrue (posted.published ++ posted.offered ++ board ∷ [])
may_offer journal posted board lawful settled none is =
    let P : List Board → Type 0 = λ l. AreTrueOf journal l in
    (journal, subst P (sym (ap (λ (p : Posted). p.published ++ p.offered ++ board ∷ []) none ∙ ap (λ b. b ∷ []) is)) (alone journal lawful settled))
