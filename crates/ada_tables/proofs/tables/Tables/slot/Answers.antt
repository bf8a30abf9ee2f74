use Rattle.std.proofs.Common.{arith, ◌∙◌}
use Rattle.ada_tables.proofs.Ties.{slot_fits, few_entries}
use Rattle.ada_tables.proofs.tables.Tables.slot.Goals as goal

pub number_within-number-requires-clause-few : goal.number_within-number-requires-clause-few
number_within-number-requires-clause-few c =
    rw (c.as_slice.ensures.value, c.families.ensures)
    (few_entries c.self.inside.tasks.tasks c.self.inside.queues.queues c.self.inside.queues.callers c.self.inside.tasks.firsts c.args.task.0 c.self.invariant
    (rw (← c.self.view_is) at c.requires.known))

pub overflow_add-result : goal.overflow_add-result
overflow_add-result c =
    let fits = (slot_fits c.self.inside.tasks.tasks c.self.inside.queues.queues c.self.inside.queues.callers c.self.inside.tasks.firsts c.args.task.0
    c.from.result c.number_within-number.result c.self.invariant (rw (← c.self.view_is) at c.requires.known)
    (c.from.ensures ∙ c.first_slot.ensures)
    (rw (c.as_slice.ensures.value, c.families.ensures) at c.number_within-number.ensures.below)) in
    omega (arith, fits.1, fits.2)

pub overflow_cast-result : goal.overflow_cast-result
overflow_cast-result c =
    let fits = (slot_fits c.self.inside.tasks.tasks c.self.inside.queues.queues c.self.inside.queues.callers c.self.inside.tasks.firsts c.args.task.0
    c.from.result c.number_within-number.result c.self.invariant (rw (← c.self.view_is) at c.requires.known)
    (c.from.ensures ∙ c.first_slot.ensures)
    (rw (c.as_slice.ensures.value, c.families.ensures) at c.number_within-number.ensures.below)) in
    omega (arith, fits.1, fits.2)

pub returns-clause-known : goal.returns-clause-known
returns-clause-known c =
    rw (← c.self.view_is)
    (slot_fits c.self.inside.tasks.tasks c.self.inside.queues.queues c.self.inside.queues.callers c.self.inside.tasks.firsts c.args.task.0 c.from.result
    c.number_within-number.result c.self.invariant (rw (← c.self.view_is) at c.requires.known)
    (c.from.ensures ∙ c.first_slot.ensures)
    (rw (c.as_slice.ensures.value, c.families.ensures) at c.number_within-number.ensures.below)).1
