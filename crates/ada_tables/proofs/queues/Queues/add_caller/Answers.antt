use Rattle.std.proofs.Common.{arith, ◌+◌}
use Rattle.ada_tables.proofs.Steps.{grown, resized}
use Rattle.ada_tables.proofs.queues.Queues.add_caller.Goals as goal

pub invariant_of-self-2 : goal.invariant_of-self-2
invariant_of-self-2 c =
    (grown c.self.inside.nodes c.add_caller.new.self c.self.inside.queues.items c.resize.new.self.items c.args.slots
    c.self.invariant (rw (← c.self.view_is) at c.requires.callers) c.in_ok-add_caller.ensures.ok
    (resized c.self.inside.queues.items c.reserve_exact.new.self.items c.resize.new.self.items c.args.slots c.reserve_exact.new.self.len
    (c.len.result + c.args.slots) c.in_ok-reserve_exact.ensures.items c.in-Ok.ensures.items
    (omega (arith, c.self.inside.queues.ok.0, c.in_ok-reserve_exact.ensures.len))
    (omega (arith, c.self.inside.queues.ok.0, c.in_ok-reserve_exact.ensures.len)))).0

pub returns-clause-ok : goal.returns-clause-ok
returns-clause-ok c =
    rw (← c.self.view_is)
    (grown c.self.inside.nodes c.add_caller.new.self c.self.inside.queues.items c.resize.new.self.items c.args.slots
    c.self.invariant (rw (← c.self.view_is) at c.requires.callers) c.in_ok-add_caller.ensures.ok
    (resized c.self.inside.queues.items c.reserve_exact.new.self.items c.resize.new.self.items c.args.slots c.reserve_exact.new.self.len
    (c.len.result + c.args.slots) c.in_ok-reserve_exact.ensures.items c.in-Ok.ensures.items
    (omega (arith, c.self.inside.queues.ok.0, c.in_ok-reserve_exact.ensures.len))
    (omega (arith, c.self.inside.queues.ok.0, c.in_ok-reserve_exact.ensures.len)))).1
