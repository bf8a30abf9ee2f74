use Rattle.std.proofs.Common.{◌≡◌, drop}
use Rattle.ada_tables.specs.Layers.{members}
use Rattle.ada_events.specs.Holders.{has_block, up_to}
use Rattle.ada_tables.proofs.layers.encloses.Given as goal

abbrev pub invariant-loop-layer : goal.invariant-loop-layer
invariant-loop-layer l =
    has_block l.block (up_to l.inner (members l.layers)) ≡ has_block l.block (up_to l.inner (members (drop l.layer-index l.layers)))
