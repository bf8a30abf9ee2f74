use Rattle.std.proofs.Common.{◌≡◌, ◌≤◌, length, take}
use Rattle.ada_events.specs.Nests.{innermost_block}
use Rattle.ada_tables.specs.Layers.{members}
use Rattle.ada_view.proofs.nests.innermost_block.Given as goal

abbrev pub invariant-loop-place : goal.invariant-loop-place
invariant-loop-place l =
    (l.place ≤ length l.layers) × (innermost_block l.outer (members (take l.place l.layers)) ≡ innermost_block l.outer (members l.layers))

abbrev pub decreases-loop-place : goal.decreases-loop-place
decreases-loop-place l = l.place
