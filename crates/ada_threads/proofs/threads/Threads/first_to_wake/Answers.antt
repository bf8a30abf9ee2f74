use Rattle.std.proofs.Common.{ap, arith, length}
use Rattle.std.proofs.lemmas.Option.{slice_get_within}
use Rattle.ada_threads.specs.internal.Settling.{Stays}
use Rattle.ada_threads.specs.Table.{Table}
use Rattle.ada_threads.proofs.Ending.{below_next}
use Rattle.ada_threads.proofs.threads.Threads.first_to_wake.Goals as goal

pub loop-place-init : goal.loop-place-init
loop-place-init c = λ journal follows rightly p below. absurd (omega (arith, below))

pub loop-place-preserved : goal.loop-place-preserved
loop-place-preserved c = λ journal follows rightly.
    below_next (Stays journal c.args.self.now) c.loop-place.place (c.loop-place.invariant journal follows rightly)
    (c.is_to_wake.ensures.no c.if-is_to_wake.false journal follows rightly)

pub returns-clause-no : goal.returns-clause-no
returns-clause-no c = λ journal follows rightly place thread there parked.
    c.loop-place.invariant journal follows rightly place
    (omega (
      arith,
      slice_get_within c.args.self.now.threads place thread there,
      c.len-place-end.ensures,
      ap (λ (t : Table). length t.threads) c.self.view_is,
    )) thread there parked
