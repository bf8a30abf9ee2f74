use Rattle.std.proofs.Common.{◌≡◌, drop}
use Rattle.ada_standing.specs.Names.{rises_from}
use Rattle.ada_standing.proofs.renaming.rise.Given as goal

abbrev pub invariant-loop-place : goal.invariant-loop-place
invariant-loop-place l = rises_from l.low (drop l.place-index l.places) ≡ rises_from 0 l.places
