use Rattle.ada_tables.proofs.Once.{once_taken}
use Rattle.ada_tables.proofs.layers.Layers.pop.Goals as goal

pub invariant_of-self : goal.invariant_of-self
invariant_of-self c = rw c.pop.ensures.rest (once_taken _ c.self.inside.layers.items c.self.invariant)
