-- What the two ends of a board know.
use Rattle.std.specs.Prelude.{◌≡◌, Option, List, [], ◌∷◌}
use Rattle.std.specs.Option.{option_map_or}
use Rattle.std.specs.List.{All, Contains}
use mathlib.Core.List.{IsPrefix}
use Rattle.ada_events.specs.declared.board.Board.{Board}
use Rattle.ada_events.specs.Boards.{AreTrue}

-- a writer: the list that is published, and the boards that were offered since
pub record Posted : Type 0 where
  pub published : List Board
  pub offered : List Board

-- a reader: the list that it has seen, the lists of the marks that it learnt since its last read, the newest
-- first, and the list that its place has met: by the rule of the board that begins what is published
pub record Sight : Type 0 where
  pub seen : List Board
  pub told : List (List Board)
  pub met : List Board

-- what a place has met; one that isn't there has met nothing
abbrev pub met_by : {P : Type 0} → (P → List Board) → Option P → List Board
met_by sight place = option_map_or sight place []

-- a read: what is seen afterwards is a true list that begins with all that was seen before, and with each
-- list that was told; it is one of these, or what the reader's place has met
pub record Reads (before after : Sight) : Type 0 where
  pub true_list : AreTrue after.seen
  pub seen : IsPrefix before.seen after.seen
  pub told : All (λ boards. IsPrefix boards after.seen) before.told
  pub fresh : after.told ≡ []
  pub met : IsPrefix before.met after.met
  pub met_first : IsPrefix after.met after.seen
  pub one : Contains (after.met ∷ before.seen ∷ before.told) after.seen
