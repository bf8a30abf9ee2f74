use Rattle.std.proofs.Common.{Some, ap, ◌∙◌}
use Rattle.ada_tables.proofs.Turns.{parent_read}
use Rattle.ada_tables.proofs.tasks.Tasks.parent.Goals as goal

pub returns-in-Block : goal.returns-in-Block
returns-in-Block c =
    rw (← c.self.view_is, c.in-Block.is)
    (ap Some c.parent_within.ensures
    ∙ parent_read c.self.inside.tasks.items c.holder_of-number.result c.in-Block.block c.index-holder.result.now c.self.invariant
    (rw c.as_slice.ensures.value at c.holder_of-number.ensures.within) c.index-holder.ensures
    (rw (c.as_slice.ensures.value, c.in-Block.is) at c.holder_of-number.ensures.held))
