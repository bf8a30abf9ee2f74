-- What every writer keeps.
use Rattle.std.specs.Prelude.{List, length, drop}
use Rattle.ada_events.specs.declared.board.Board.{Board}
use Rattle.ada_board.specs.Sights.{Posted}

-- the published list, and what the whole list has behind it
abbrev pub posted : List Board → List Board → Posted
posted published whole = record { published = published; offered = drop (length published) whole }
