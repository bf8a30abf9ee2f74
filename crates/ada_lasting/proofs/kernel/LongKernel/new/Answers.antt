use Rattle.std.proofs.Common.{List, [], ◌-◌, length, take, ap, arith}
use Rattle.ada_events.specs.declared.event.Event.{Event}
use Rattle.ada_lasting.specs.Naming.{Naming}
use Rattle.ada_lasting.proofs.Beginning.{begins}
use Rattle.ada_lasting.proofs.Ends.{no_events_known}
use Rattle.ada_lasting.proofs.kernel.LongKernel.new.Goals as goal

pub returns-clause-ok : goal.returns-clause-ok
returns-clause-ok c =
    begins _ c.in-Ok.ensures.ok c.in-Ok-new.ensures c.new-3.ensures (ap (λ (p : List Event). take (length p - 0) p) c.in-Ok.ensures.ok)

pub invariant_of-result : goal.invariant_of-result
invariant_of-result c = (
  omega (arith, ap length c.in-Ok.ensures.ok, ap (λ (n : Naming). n.until) c.in-Ok-new.ensures),
  omega arith,
  no_events_known _ _ _ (ap (λ (p : List Event). take (length p - 0) p) c.in-Ok.ensures.ok),
  ([], begins _ c.in-Ok.ensures.ok c.in-Ok-new.ensures c.new-3.ensures (ap (λ (p : List Event). take (length p - 0) p) c.in-Ok.ensures.ok)),
)
