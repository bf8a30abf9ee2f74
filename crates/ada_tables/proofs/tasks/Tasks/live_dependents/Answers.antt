use Rattle.std.proofs.Common.{◌∙◌}
use Rattle.ada_tables.proofs.Bounds.{body_fits}
use Rattle.ada_tables.proofs.Turns.{live_read}
use Rattle.ada_tables.proofs.tasks.Tasks.live_dependents.Goals as goal

pub returns-in-Block-clause-value : goal.returns-in-Block-clause-value
returns-in-Block-clause-value c =
    rw (← c.self.view_is, c.in-Block.is)
    (c.live_at.ensures
    ∙ live_read c.self.inside.tasks.items c.holder_of-number.result c.in-Block.block c.index-holder.result.now c.self.invariant
    (rw c.as_slice.ensures.value at c.holder_of-number.ensures.within) c.index-holder.ensures
    (rw (c.as_slice.ensures.value, c.in-Block.is) at c.holder_of-number.ensures.held))

pub returns-in-Body-clause-fits : goal.returns-in-Body-clause-fits
returns-in-Body-clause-fits c =
    body_fits c.self.inside.tasks.items c.holder_of-number.result c.index-holder.result.now c.self.invariant
    (rw c.as_slice.ensures.value at c.holder_of-number.ensures.within) c.index-holder.ensures
