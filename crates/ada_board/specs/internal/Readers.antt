-- What every reader keeps.
use Rattle.std.specs.Prelude.{◌≡◌, ◌∷◌}
use Rattle.std.specs.List.{All, Contains}
use mathlib.Core.List.{IsPrefix}
use Rattle.logbook.specs.Pages.{Book}
use Rattle.ada_board.specs.Histories.{KnownHistory}
use Rattle.ada_board.specs.Sights.{Sight}

-- what is known begins with all that was seen, told and met, and was seen or told
pub record IsReader (book : Book) (known : KnownHistory) (sight : Sight) : Type 0 where
  pub book_is : known.book ≡ book
  pub seen_first : IsPrefix sight.seen known.boards
  pub told_first : All (λ boards. IsPrefix boards known.boards) sight.told
  pub met_first : IsPrefix sight.met known.boards
  pub one : Contains (sight.seen ∷ sight.told) known.boards
