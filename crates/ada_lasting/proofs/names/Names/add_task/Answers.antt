use Rattle.std.proofs.Common.{rules, ◌^◌, subst, sym, ◌<◌, ◌+◌, arith}
use Rattle.ada_lasting.specs.Naming.{Naming}
use Rattle.ada_lasting.proofs.Finding.{rises_more, name_tasks-more}
use Rattle.ada_lasting.proofs.names.Names.add_task.Goals as goal

pub invariant_of-self-2 : goal.invariant_of-self-2
invariant_of-self-2 c = (
  rw c.in_ok-push.ensures.items
      (rises_more c.self.inside.tasks.items _ 0 c.self.inside.made (c.self.inside.made + 1) c.self.invariant.0
      (omega arith) (omega arith) (omega arith)),
  rw c.in_ok-push.ensures.items (name_tasks-more c.self.inside.tasks.items _ c.self.invariant.1 (search rules)),
  c.self.invariant.2,
  c.self.invariant.3,
  c.self.invariant.4,
  c.self.invariant.5,
  subst (λ (n : Naming). n.made + 1 < 2 ^ 64) (sym c.self.view_is) (omega (arith, c.requires)),
)
