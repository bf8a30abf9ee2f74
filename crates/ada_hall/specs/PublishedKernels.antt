-- A kernel whose boards are published.
use Rattle.std.specs.Prelude.{◌≡◌, Bool, true, false, Option, List, [], ◌∷◌, ◌++◌, MatchBool, MatchOption}
use Rattle.ada_events.specs.declared.event.Event.{Event}
use Rattle.ada_events.specs.declared.board.Board.{Board}
use Rattle.ada_events.specs.Lawful.{IsSettled}
use Rattle.ada_events.specs.Boards.{AreTrueOf, board_of}
use Rattle.ada_board.specs.Answers.{latest}
use Rattle.ada_replay.specs.declared.answer.Answer.{Answer}
use Rattle.ada_replay.specs.declared.answer.Answer.TheVariants.{Group}

-- the journal, the published list, and whether that is behind the journal
pub record Showing : Type 0 where
  pub journal : List Event
  pub published : List Board
  pub behind : Bool

-- the published list is true of the journal, and is behind exactly while its board isn't the journal's
pub record IsTied (journal : List Event) (published : List Board) (behind : Bool) : Type 0 where
  pub true_of : AreTrueOf journal published
  pub settled : IsSettled journal
  pub is_behind : MatchBool behind (¬ (latest published ≡ board_of journal)) (latest published ≡ board_of journal)

-- a mark carries the list with the journal's board added to it; without one the list stays as it was, behind
abbrev pub Publishes : Showing → Showing → Option (List Board) → Type 0
Publishes old new mark = MatchOption mark
    ((new.published ≡ old.published) × (new.behind ≡ true))
    (λ boards. (boards ≡ new.published) × (new.published ≡ old.published ++ board_of new.journal ∷ []) × (new.behind ≡ false))

-- what an accepted request led to is published, or left behind; else what is shown stays
abbrev pub ShowsAnswer : Answer → Showing → Showing → Type 0
ShowsAnswer (Group _ _) old new = (mark : Option (List Board)) × Publishes old new mark
ShowsAnswer _ old new = new ≡ old
