use Rattle.ada_board.proofs.Beginnings.{prefix_refl}
use Rattle.ada_board.proofs.Public.{follows}
use Rattle.ada_board.proofs.reader.look.Goals as goal

pub enter_as-requires : goal.enter_as-requires
enter_as-requires g c = λ x views rule at.
    follows g.J.Naming.book c.args.place.place.id _ x.edition.value x.edition.value rule.book_is rule.true_list (prefix_refl x.edition.value.boards)
    views rule at
