use Rattle.std.proofs.Common.{◌≡◌, drop}
use Rattle.ada_standing.specs.Names.{placed}
use Rattle.ada_standing.proofs.renaming.Renaming.position.Given as goal

abbrev pub invariant-loop-place : goal.invariant-loop-place
invariant-loop-place l = placed (drop l.place-index l.fn.self.places) l.position ≡ placed l.fn.self.places l.position
