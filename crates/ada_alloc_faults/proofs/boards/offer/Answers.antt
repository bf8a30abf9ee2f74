use Rattle.ada_alloc_faults.proofs.Alone.{may_offer}
use Rattle.ada_alloc_faults.proofs.boards.offer.Goals as goal

pub offer-first-requires : goal.offer-first-requires
offer-first-requires g c =
    may_offer c.args.kernel.now c.args.writer.now c.board-board.result c.journal-journal.ensures.lawful c.journal-journal.ensures.settled
    c.requires c.board-board.ensures

pub offer-requires : goal.offer-requires
offer-requires g c =
    may_offer c.args.kernel.now c.is_still-unchanged.new.writer c.board-board.result c.journal-journal.ensures.lawful c.journal-journal.ensures.settled
    c.is_still-unchanged.ensures c.board-board.ensures
