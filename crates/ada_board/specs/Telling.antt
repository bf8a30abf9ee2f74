-- The lists that a reader was told of.
use Rattle.std.specs.Prelude.{List, [], ◌∷◌}
use Rattle.ada_events.specs.declared.board.Board.{Board}
use Rattle.ada_board.specs.declared.told.Chain.{Chain, Nothing, Also'}

-- the newest first
abbrev pub told_of : Chain → List (List Board)
told_of Nothing = []
told_of (Also' shape before edition) = edition.value.boards ∷ told_of before
