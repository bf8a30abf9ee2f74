use Rattle.std.proofs.Common.{arith}
use Rattle.ada_lasting.proofs.Finding.{rises_less, name_tasks-less}
use Rattle.ada_lasting.proofs.names.Names.take_back.Goals as goal

pub invariant_of-self : goal.invariant_of-self
invariant_of-self c = (
  rises_less c.pop.new.self.items c.in-Some.row 0 c.self.inside.made (rw (← c.in-Some.ensures.items) c.self.invariant.0),
  name_tasks-less c.pop.new.self.items c.in-Some.row (rw (← c.in-Some.ensures.items) c.self.invariant.1),
  c.self.invariant.2,
  c.self.invariant.3,
  c.self.invariant.4,
  c.self.invariant.5,
  omega arith,
)
