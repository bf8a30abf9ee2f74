-- Boards that are published behind accepted requests, and those that stay behind.
use Rattle.std.proofs.Common.{◌≡◌, ℕ, List, [], ◌∷◌, ◌++◌, sym, subst, append_assoc, ◌∙◌}
use Rattle.ada_events.specs.declared.event.Event.{Event}
use Rattle.ada_events.specs.declared.board.Board.{Board}
use Rattle.ada_events.specs.declared.request.Request.{Request}
use Rattle.ada_events.specs.Asks.{asked_event}
use Rattle.ada_events.specs.Lawful.{IsLawful, IsSettled}
use Rattle.ada_events.specs.Steps.{IsAccepted}
use Rattle.ada_events.specs.Boards.{AreTrueOf, board_of}
use Rattle.ada_laws.proofs.forced.Forcing.{forces_keeps}
use Rattle.ada_laws.proofs.boards.ShowingLaws.{boards_stay_true, answers_are_shown}

-- the board of what a request led to may be published
pub published_next : (old new : List Event) (request : Request) (at : ℕ) (published : List Board) → AreTrueOf old published → IsSettled old
    → IsAccepted old request at new → AreTrueOf new (published ++ board_of new ∷ [])
published_next old new request at published true_of settled accepted =
    answers_are_shown old request new published true_of settled accepted.unrefused accepted.after

-- what is published may also stay behind
pub published_still : (old new : List Event) (request : Request) (at : ℕ) (published : List Board) → AreTrueOf old published
    → IsAccepted old request at new → IsLawful new → AreTrueOf new published
published_still old new request at published true_of accepted lawful =
    let steps = forces_keeps (asked_event old request ∷ old) new accepted.after.forces in
    let whole : new ≡ (steps.0 ++ asked_event old request ∷ []) ++ old = steps.1 ∙ sym (append_assoc steps.0 (asked_event old request ∷ []) old) in
    let P : List Event → Type 0 = λ j. AreTrueOf j published in
    let Q : List Event → Type 0 = λ j. IsLawful j in
    subst P (sym whole) (boards_stay_true (steps.0 ++ asked_event old request ∷ []) old published true_of (subst Q whole lawful))
