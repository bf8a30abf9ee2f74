use Rattle.std.proofs.Common.{◌∙◌}
use Rattle.ada_board.proofs.Reading.{learnt}
use Rattle.ada_board.proofs.reader.BoardReader.learn.Goals as goal

pub invariant_of-self : goal.invariant_of-self
invariant_of-self g c =
    rw c.add.ensures (
    learnt g.J.Naming.book c.self.inside.known c.advance.new.self c.edition-edition.result.now.boards _ c.self.invariant
    (c.advance.ensures.book ∙ c.self.invariant.book_is) c.advance.ensures.own c.advance.ensures.others c.advance.ensures.one
    )
