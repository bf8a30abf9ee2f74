use Rattle.ada_laws.proofs.boards.Publishing.{published_next}
use Rattle.ada_hall.proofs.Tied.{tied_after}
use Rattle.ada_hall.proofs.published.PublishedKernel.step.Goals as goal

pub publish-mark-requires-clause-true_list : goal.publish-mark-requires-clause-true_list
publish-mark-requires-clause-true_list g c = (
  c.step.new.self,
  rw c.board-board.ensures (published_next c.self.inside.kernel c.step.new.self c.args.request c.in_ok-at.at c.self.inside.writer.published
      c.self.invariant.0.true_of c.self.invariant.0.settled c.in_ok-at.ensures.ok),
)

pub invariant_of-self-2 : goal.invariant_of-self-2
invariant_of-self-2 g c =
    tied_after c.self.inside.kernel c.step.new.self c.args.request c.in_ok-at.at c.self.inside.writer c.publish-mark.new.writer c.board-board.result
    c.publish-mark.result c.is_none-self-inside.result c.self.invariant.0.true_of c.self.invariant.0.settled c.in_ok-at.ensures.ok
    c.step.ensures.lawful c.step.ensures.settled c.self.invariant.1 c.board-board.ensures c.publish-mark.ensures c.is_none-self-inside.ensures
