use Rattle.std.proofs.Common.{◌∙◌, arith}
use Rattle.ada_view.proofs.Placing.{count_told, none_told}
use Rattle.ada_view.proofs.boards.shows_count.Goals as goal

pub returns-then-slot-slots : goal.returns-then-slot-slots
returns-then-slot-slots c =
    c.queue_len_at.ensures.value
    ∙ count_told _ c.args.view.now c.args.slot c.tables-tables.ensures.stand (omega (arith, c.if-slot-slots.true, c.slots.ensures.all))

pub returns-else-slot-slots : goal.returns-else-slot-slots
returns-else-slot-slots c =
    none_told _ c.args.view.now c.args.slot c.tables-tables.ensures.stand (omega (arith, c.if-slot-slots.false, c.slots.ensures.all))
