use Rattle.std.proofs.Common.{◌≡◌, ◌≤◌, length, take}
use Rattle.ada_tables.specs.internal.Layers.{live_at}
use Rattle.ada_tables.proofs.layers.live_in.Given as goal

abbrev pub invariant-loop-place : goal.invariant-loop-place
invariant-loop-place l =
    (l.place ≤ length l.layers) × (live_at l.block (take l.place l.layers) ≡ live_at l.block l.layers)

abbrev pub decreases-loop-place : goal.decreases-loop-place
decreases-loop-place l = l.place
