use Rattle.std.proofs.Common.{◌≡◌, find, drop}
use Rattle.ada_statements.specs.Binding.{is_bound_to, bound_to}
use Rattle.ada_statements.proofs.names.Names.first_bound_to.Given as goal

abbrev pub invariant-loop-place : goal.invariant-loop-place
invariant-loop-place l = find (λ entry. is_bound_to l.bound entry.1) (drop l.place l.self-inside.table.entries) ≡ bound_to l.self-inside.table.entries l.bound
