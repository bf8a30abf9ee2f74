use Rattle.ada_events.specs.Masters.{depends_on}
use Rattle.ada_view.proofs.Listing.{ListsFirst}
use Rattle.ada_view.proofs.touched.dependents.Given as goal

abbrev pub invariant-loop-number : goal.invariant-loop-number
invariant-loop-number l = ListsFirst l.view l.dependents (λ task. depends_on l.view task l.master) l.number
