-- What is published stays true of the journal that goes on, and falls behind where it isn't added to.
use Rattle.std.proofs.Common.{◌≡◌, ℕ, ◌+◌, ◌<◌, ◌≤◌, Bool, true, false, Option, Some, None, List, [], ◌∷◌, ◌++◌, length}
use Rattle.std.proofs.Common.{ap, sym, subst, append_assoc, ◌∙◌, arith, length-append, MatchOption}
use Rattle.std.specs.Prelude.{is_some, not}
use Rattle.std.proofs.lemmas.Bool.{not-true, not-false}
use Rattle.std.specs.List.{All}
use Rattle.std.proofs.lemmas.List.Elements.{All-head, All-tail, All-weaker}
use Rattle.ada_events.specs.declared.event.Event.{Event}
use Rattle.ada_events.specs.declared.board.Board.{Board}
use Rattle.ada_events.specs.declared.request.Request.{Request}
use Rattle.ada_events.specs.Asks.{asked_event}
use Rattle.ada_events.specs.Lawful.{IsLawful, IsSettled}
use Rattle.ada_events.specs.Steps.{IsAccepted}
use Rattle.ada_events.specs.Boards.{IsShownBy, AreTrueOf, board_of}
use Rattle.ada_laws.proofs.forced.Forcing.{forces_keeps}
use Rattle.ada_laws.proofs.boards.Publishing.{published_next, published_still}
use Rattle.ada_laws.proofs.boards.ShowingLaws.{board_events}
use Rattle.ada_board.specs.Answers.{latest_behind, latest}
use Rattle.ada_board.specs.Sights.{Posted}
use Rattle.ada_board.proofs.Truth.{latest_added}
use Rattle.ada_hall.specs.PublishedKernels.{IsTied}

-- what a request led to is the old journal with more before it
grown : (old new : List Event) (request : Request) (at : ℕ) → IsAccepted old request at new → (steps : List Event) × (new ≡ steps ++ old) × (0 < length steps)
grown old new request at accepted =
    let steps = forces_keeps (asked_event old request ∷ old) new accepted.after.forces in (
      steps.0 ++ asked_event old request ∷ [],
      steps.1 ∙ sym (append_assoc steps.0 (asked_event old request ∷ []) old),
      omega (arith, length-append steps.0 (asked_event old request ∷ [])),
    )

-- the board of a list is no newer than its boards
events_within : (n : ℕ) (before : Board) (boards : List Board) → before.events ≤ n → All (λ (b : Board). b.events ≤ n) boards
    → (latest_behind before boards).events ≤ n
events_within n before [] first all = first
events_within n before (board ∷ boards) first all =
    events_within n board boards (All-head (λ (b : Board). b.events ≤ n) board boards all) (All-tail (λ (b : Board). b.events ≤ n) board boards all)

-- what stays as it was is behind
falls_behind : (old new : List Event) (request : Request) (at : ℕ) (published : List Board) → AreTrueOf old published → IsAccepted old request at new
    → ¬ (latest published ≡ board_of new)
falls_behind old new request at published true_of accepted = λ same.
    let (steps, is, some) = grown old new request at accepted in
    let all : All (λ (b : Board). b.events ≤ length old) published =
    All-weaker (IsShownBy old) (λ (b : Board). b.events ≤ length old) (λ b shown. shown.within) published true_of.each in
    let empty : (board_of []).events ≡ 0 = board_events [] in
    let within : (latest published).events ≤ length old = events_within (length old) (board_of []) published (omega arith) all in
    let equal : (latest published).events ≡ length new = ap (λ (b : Board). b.events) same ∙ board_events new in
    let longer : length new ≡ length steps + length old = ap length is ∙ length-append steps old in
    absurd (omega arith)

-- the board was published
pub tied_on : (old new : List Event) (request : Request) (at : ℕ) (published after : List Board) → AreTrueOf old published → IsSettled old
    → IsAccepted old request at new → IsSettled new → after ≡ published ++ board_of new ∷ [] → IsTied new after false
tied_on old new request at published after true_of settled accepted ends is =
    let P : List Board → Type 0 = λ l. IsTied new l false in
    subst P (sym is) (record {
      true_of = published_next old new request at published true_of settled accepted;
      settled = ends;
      is_behind = latest_added (board_of []) published (board_of new);
    })

-- it wasn't
pub tied_behind : (old new : List Event) (request : Request) (at : ℕ) (published : List Board) → AreTrueOf old published
    → IsAccepted old request at new → IsLawful new → IsSettled new → IsTied new published true
tied_behind old new request at published true_of accepted lawful ends = record {
  true_of = published_still old new request at published true_of accepted lawful;
  settled = ends;
  is_behind = falls_behind old new request at published true_of accepted;
}

-- what is published, once a board was offered and shown or refused
pub tied_after : (old new : List Event) (request : Request) (at : ℕ) (before after : Posted) (board : Board) (mark : Option (List Board))
    (behind : Bool) → AreTrueOf old before.published
    → IsSettled old → IsAccepted old request at new → IsLawful new → IsSettled new → before.offered ≡ [] → board ≡ board_of new
    → MatchOption mark (after ≡ before) (λ m. (m ≡ after.published) × (after ≡ record { published = before.published ++ board ∷ []; offered = [] }))
    → is_some mark ≡ not behind → IsTied new after.published behind × (after.offered ≡ [])
tied_after old new request at before after board None behind true_of settled accepted lawful ends none is said behind_is =
    let P : Posted → Type 0 = λ p. IsTied new p.published true in
    rw (not-false behind (sym behind_is)) (
      subst P (sym said) (tied_behind old new request at before.published true_of accepted lawful ends),
      ap (λ p. p.offered) said ∙ none,
    )
tied_after old new request at before after board (Some m) behind true_of settled accepted lawful ends none is said behind_is =
    rw (not-true behind (sym behind_is)) (
      tied_on old new request at before.published after.published true_of settled accepted ends
          (ap (λ p. p.published) said.1 ∙ ap (λ b. before.published ++ b ∷ []) is),
      ap (λ p. p.offered) said.1,
    )
