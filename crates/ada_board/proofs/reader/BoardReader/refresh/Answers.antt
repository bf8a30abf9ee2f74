use Rattle.ada_board.proofs.Reading.{reads}
use Rattle.ada_board.proofs.reader.BoardReader.refresh.Goals as goal

pub returns : goal.returns
returns g c =
    rw (← c.self.view_is, c.reached.ensures.boards, c.nothing.ensures)
    (reads g.J.Naming.book c.self.inside.known c.visit.new.known _ _ c.self.invariant c.visit.ensures.later
    c.reached.ensures.true_list c.visit.ensures.met c.visit.ensures.sight c.visit.ensures.one)
