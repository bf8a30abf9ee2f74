-- True lists of boards.
use Rattle.std.proofs.Common.{◌≡◌, ◌≢◌, ℕ, ◌+◌, ◌-◌, ◌<◌, ◌≤◌, List, [], ◌∷◌, ◌++◌, length, map, drop, get_or, refl, sym, ap, ◌∙◌, subst, arith, length-append}
use Rattle.std.proofs.Common.{append_assoc}
use Rattle.std.specs.List.{AllPairs, Contains}
use Rattle.std.proofs.Math.Seq.{drop-append-add}
use Rattle.std.proofs.lemmas.Bool.{eqb-true}
use Rattle.std.proofs.lemmas.Bool.Decides.{Decides-eqb}
use Rattle.std.proofs.lemmas.List.{get_or-map, length-map}
use Rattle.std.proofs.lemmas.List.Elements.{All-push, All-weaker, All-nil}
use Rattle.std.proofs.lemmas.List.Quantifiers.{all_pairs_push}
use Rattle.std.proofs.lemmas.Map.Steps.{length-le_from_distinct_below}
use Rattle.std.proofs.lemmas.Map.Made.{IsDistinct-from_AllPairs}
use Rattle.std.proofs.lemmas.Map.Views.{Contains-from_any}
use Rattle.ada_events.specs.declared.event.Event.{Event}
use Rattle.ada_events.specs.declared.board.Board.{Board}
use Rattle.ada_events.specs.Asks.{asked_event}
use Rattle.ada_events.specs.Lawful.{IsLawful, IsSettled}
use Rattle.ada_events.specs.Boards.{IsShownBy, AreTrueOf, board_of, first_events}
use Rattle.ada_laws.specs.Showing.{NoBoardsAreTrue, BoardsStayTrue, NewBoardsAreTrue, AnswersAreShown, TrueBoardsAreFew}
use Rattle.ada_laws.proofs.forced.Forcing.{forces_keeps}
use Rattle.ada_laws.proofs.asking.RequestLaws.{stays_lawful}
use Rattle.ada_laws.proofs.asking.LimitLaws.{events_are_few}

pub no_boards_are_true : NoBoardsAreTrue
no_boards_are_true journal lawful = record { lawful = lawful; rise = λ i j d less below. absurd (omega arith); each = All-nil (IsShownBy journal) }

-- the first events of a journal are those of one that begins with it
first_events-more : (steps old : List Event) (n : ℕ) → n ≤ length old → first_events n (steps ++ old) ≡ first_events n old
first_events-more steps old n within =
    ap (λ k. drop k (steps ++ old)) (let e : length (steps ++ old) - n ≡ length steps + (length old - n) = omega (arith, length-append steps old) in e)
    ∙ drop-append-add steps old (length old - n)

all_events : (journal : List Event) (n : ℕ) → n ≡ length journal → first_events n journal ≡ journal
all_events journal n same = ap (λ k. drop k journal) (let e : length journal - n ≡ 0 = omega arith in e)

shown_later : (steps old : List Event) (board : Board) → IsShownBy old board → IsShownBy (steps ++ old) board
shown_later steps old board shown =
    let within : board.events ≤ length old = shown.within in
    let same : first_events board.events (steps ++ old) ≡ first_events board.events old = first_events-more steps old board.events within in
    record {
      within = omega (arith, length-append steps old);
      settled = subst (λ (j : List Event). IsSettled j) (sym same) shown.settled;
      shows = shown.shows ∙ ap board_of (sym same);
    }

pub boards_stay_true : BoardsStayTrue
boards_stay_true steps old boards true_of lawful = record {
  lawful = lawful;
  rise = true_of.rise;
  each = All-weaker (IsShownBy old) (IsShownBy (steps ++ old)) (λ board shown. shown_later steps old board shown) boards true_of.each;
}

pub board_events : (journal : List Event) → (board_of journal).events ≡ length journal
unfolding board_of
board_events journal = refl

pub newest_shown : (journal : List Event) → IsSettled journal → IsShownBy journal (board_of journal)
newest_shown journal settled =
    let many : (board_of journal).events ≡ length journal = board_events journal in
    let same : first_events (board_of journal).events journal ≡ journal = all_events journal (board_of journal).events many in
    record {
      within = omega arith;
      settled = subst (λ (j : List Event). IsSettled j) (sym same) settled;
      shows = ap board_of (sym same);
    }

pub new_boards_are_true : NewBoardsAreTrue
new_boards_are_true steps old boards true_of some lawful settled =
    let new = steps ++ old in
    let still = boards_stay_true steps old boards true_of lawful in
    record {
      lawful = lawful;
      rise = all_pairs_push (λ (a : Board) (b : Board). a.events < b.events) boards (board_of new) true_of.rise
          (λ k d below.
          let within : (get_or boards k d).events ≤ length old = (true_of.each k d below).within in
          let many : (board_of new).events ≡ length new = board_events new in
          omega (arith, length-append steps old));
      each = All-push (IsShownBy new) boards (board_of new) still.each (newest_shown new settled);
    }

behind_one : (event : Event) (steps old new : List Event) (boards : List Board) → AreTrueOf old boards → new ≡ steps ++ (event ∷ old) → IsLawful new
    → IsSettled new → AreTrueOf new (boards ++ board_of new ∷ [])
behind_one event steps old new boards true_of is lawful settled =
    let whole : new ≡ (steps ++ event ∷ []) ++ old = is ∙ sym (append_assoc steps (event ∷ []) old) in
    let P : List Event → Type 0 = λ j. AreTrueOf j (boards ++ board_of j ∷ []) in
    subst P (sym whole)
    (new_boards_are_true (steps ++ event ∷ []) old boards true_of (omega (arith, length-append steps (event ∷ [])))
    (subst (λ (j : List Event). IsLawful j) whole lawful) (subst (λ (j : List Event). IsSettled j) whole settled))

pub answers_are_shown : AnswersAreShown
answers_are_shown old request new boards true_of settled accepted after =
    let (steps, is) = forces_keeps (asked_event old request ∷ old) new after.forces in
    behind_one (asked_event old request) steps old new boards true_of is
    (stays_lawful old request new true_of.lawful settled accepted after) after.settled

board_length : Board → ℕ
board_length board = board.events

pub true_boards_are_few : TrueBoardsAreFew
unfolding board_length
true_boards_are_few boards (journal, true_of) =
    let few : length journal ≤ 65536 = events_are_few journal true_of.lawful in
    let counts = map board_length boards in
    let apart : AllPairs (λ x y. x ≢ y) counts = λ i j d less below.
    let within : j < length boards = omega (arith, length-map boards board_length) in
    let dummy : Board = board_of [] in
    let rises : (get_or boards i dummy).events < (get_or boards j dummy).events = true_of.rise i j dummy less within in
    λ same.
    let equal : (get_or boards i dummy).events ≡ (get_or boards j dummy).events =
    sym (get_or-map board_length boards i dummy d (omega arith)) ∙ same ∙ get_or-map board_length boards j dummy d within in
    omega arith in
    let bounded : (q : ℕ) → Contains counts q → q < 65537 = λ q found.
    let dummy : Board = board_of [] in
    let within : found.0 < length boards = omega (arith, found.1, length-map boards board_length) in
    let is : q ≡ (get_or boards found.0 dummy).events = sym found.2 ∙ get_or-map board_length boards found.0 dummy q within in
    let most : (get_or boards found.0 dummy).events ≤ length journal = (true_of.each found.0 dummy within).within in
    omega arith in
    let short : length counts ≤ 65537 =
    length-le_from_distinct_below counts 65537 (IsDistinct-from_AllPairs Decides-eqb counts apart)
    (λ q found. bounded q (Contains-from_any eqb-true q counts found)) in
    omega (arith, length-map boards board_length)
