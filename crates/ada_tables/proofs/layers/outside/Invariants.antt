use Rattle.std.proofs.Common.{◌≡◌, None, drop}
use Rattle.ada_tables.specs.Layers.{members}
use Rattle.ada_tables.specs.Dependents.{outside}
use Rattle.ada_tables.proofs.layers.outside.Given as goal

abbrev pub invariant-loop-layer : goal.invariant-loop-layer
invariant-loop-layer l = outside l.block None (members l.layers) ≡ outside l.block l.before (members (drop l.layer-index l.layers))
