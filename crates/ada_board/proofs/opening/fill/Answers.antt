use Rattle.ada_board.proofs.Public.{joined}
use Rattle.ada_board.proofs.opening.fill.Goals as goal

pub reader-requires : goal.reader-requires
reader-requires g c = λ x seen rule. joined g.J.Naming.book x.edition.value seen rule
