use Rattle.std.proofs.Common.{◌≡◌, map, take}
use Rattle.ada_statements.specs.Binding.{family_of}
use Rattle.ada_statements.proofs.requests.families_of.Given as goal

abbrev pub invariant-loop-family : goal.invariant-loop-family
invariant-loop-family l = l.bounds ≡ map family_of (take l.family-index l.families)
