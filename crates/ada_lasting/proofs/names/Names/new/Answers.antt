use Rattle.std.proofs.Common.{refl, arith}
use Rattle.ada_lasting.specs.internal.Keeping.{rises_between}
use Rattle.ada_lasting.proofs.names.Names.new.Goals as goal

pub invariant_of-result : goal.invariant_of-result
unfolding rises_between
invariant_of-result c = (
  rw (c.in_ok-push.ensures.items, c.new-tasks.ensures.items) refl,
  rw (c.in_ok-push.ensures.items, c.new-tasks.ensures.items) refl,
  rw c.new.ensures.items refl,
  omega arith,
  omega arith,
  omega arith,
  omega arith,
)
