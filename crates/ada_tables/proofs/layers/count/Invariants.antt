use Rattle.ada_tables.specs.internal.Changes.{changed}
use Rattle.ada_tables.proofs.Counting.{IsCounted}
use Rattle.ada_tables.proofs.layers.count.Given as goal

abbrev pub invariant-loop-layer : goal.invariant-loop-layer
invariant-loop-layer l = IsCounted (changed l.change) l.block l.initial.layers l.layers l.layer-index
