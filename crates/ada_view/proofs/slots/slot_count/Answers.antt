use Rattle.std.proofs.Common.{◌∙◌}
use Rattle.ada_view.proofs.Placing.{slots_told}
use Rattle.ada_view.proofs.slots.slot_count.Goals as goal

pub returns : goal.returns
returns c = c.slots.ensures.all ∙ slots_told _ c.args.view.now c.tables.ensures.stand
