use Rattle.std.proofs.Common.{◌+◌, ◌<◌, length, ap, ◌∙◌, arith}
use Rattle.ada_explore.specs.Picks.{delays_in}
use Rattle.ada_explore.proofs.Picking.{below_both}
use Rattle.ada_explore.proofs.turns.bound_of.Goals as goal

pub returns-in-Select : goal.returns-in-Select
returns-in-Select c pick could =
    let choices = c.in-Select.choices in
    let tail = c.in-Select.tail in
    let below : pick < length choices + delays_in tail
    = below_both c.in-Select.pick pick (length choices) (delays_in tail) (rw c.in-Select.is at could) in
    omega (arith, below, ap length c.as_slice.ensures.value, c.delays_in.ensures.value ∙ ap delays_in c.get.ensures)
