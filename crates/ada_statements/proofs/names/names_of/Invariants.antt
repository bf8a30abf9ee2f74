use Rattle.std.proofs.Common.{◌≡◌, map, take}
use Rattle.ada_statements.proofs.names.names_of.Given as goal

abbrev pub invariant-loop-family : goal.invariant-loop-family
invariant-loop-family l = l.names ≡ map (λ f. f.name) (take l.family-index l.families)
