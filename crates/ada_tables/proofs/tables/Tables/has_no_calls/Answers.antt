use Rattle.std.proofs.Common.{arith}
use Rattle.ada_tables.proofs.Ties.{few_entries, slots_within}
use Rattle.ada_tables.proofs.tables.Tables.has_no_calls.Goals as goal

pub entries_in-many-requires : goal.entries_in-many-requires
entries_in-many-requires c =
    rw (c.as_slice.ensures.value, c.families.ensures)
    (few_entries c.self.inside.tasks.tasks c.self.inside.queues.queues c.self.inside.queues.callers c.self.inside.tasks.firsts c.args.task.0 c.self.invariant
    (rw (← c.self.view_is) at c.requires))

pub overflow_cast-many : goal.overflow_cast-many
overflow_cast-many c =
    let many = rw (c.as_slice.ensures.value, c.families.ensures) at c.entries_in-many.ensures in
    omega (
      arith,
      many,
      few_entries c.self.inside.tasks.tasks c.self.inside.queues.queues c.self.inside.queues.callers c.self.inside.tasks.firsts c.args.task.0
          c.self.invariant (rw (← c.self.view_is) at c.requires),
    )

pub are_empty-requires-clause-slots : goal.are_empty-requires-clause-slots
are_empty-requires-clause-slots c =
    let many = rw (c.as_slice.ensures.value, c.families.ensures) at c.entries_in-many.ensures in
    let first = c.first_slot-first.ensures in
    omega (
      arith,
      many,
      first,
      c.self.invariant.first c.args.task.0 (rw (← c.self.view_is) at c.requires),
      slots_within c.self.inside.tasks.tasks c.self.inside.queues.queues c.self.inside.queues.callers c.self.inside.tasks.firsts
          c.args.task.0 c.self.invariant (rw (← c.self.view_is) at c.requires),
    )
