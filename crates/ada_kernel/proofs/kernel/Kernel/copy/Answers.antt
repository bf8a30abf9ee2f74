use Rattle.std.proofs.Common.{List, subst, sym}
use Rattle.ada_events.specs.declared.event.Event.{Event}
use Rattle.ada_events.specs.Lawful.{IsLawful, IsSettled}
use Rattle.ada_kernel.specs.internal.Indexes.{IsIndexOf}
use Rattle.ada_kernel.proofs.kernel.Kernel.copy.Goals as goal

pub invariant_of-result : goal.invariant_of-result
invariant_of-result c =
    let (lawful, settled, stands) = c.self.invariant in
    subst (λ (journal : List Event). IsLawful journal × IsSettled journal × IsIndexOf c.in_ok-index.index journal) (sym c.in_ok-journal.ensures.ok)
    (lawful, settled, c.in_ok-index.ensures.ok _ stands)
