use Rattle.ada_tables.proofs.Once.{once_removed}
use Rattle.ada_tables.proofs.layers.Layers.cut.Goals as goal

pub invariant_of-self : goal.invariant_of-self
invariant_of-self c = rw c.remove.ensures.items (once_removed c.in-Some.place c.self.inside.layers.items c.self.invariant)
