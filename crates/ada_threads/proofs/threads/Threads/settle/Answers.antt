use Rattle.std.proofs.Common.{List, drop, length, sym, ap, subst, ◌∙◌}
use Rattle.std.proofs.lemmas.List.{take_at}
use Rattle.ada_events.specs.declared.event.Event.{Event}
use Rattle.ada_lasting.specs.Following.{before_shown}
use Rattle.ada_threads.specs.Going.{AreHeldRightly}
use Rattle.ada_threads.specs.Table.{Table}
use Rattle.ada_threads.proofs.Ending.{before_grown}
use Rattle.ada_threads.proofs.threads.Threads.settle.Goals as goal

pub returns-clause-marks : goal.returns-clause-marks
returns-clause-marks c = λ journal follows rightly.
    subst (AreHeldRightly journal)
    (sym (take_at c.settle.new.threads (drop (length c.settle.new.threads) c.self.inside.threads.items) c.self.inside.threads.len
    (c.settle.auto.threads ∙ c.deref_mut.ensures.len)))
    (c.settle.ensures.marks journal follows
    (subst (AreHeldRightly (before_shown journal c.args.kernel.now))
    (sym (c.deref_mut.ensures.value ∙ ap (λ (t : Table). t.threads) c.self.view_is)) rightly))

pub returns-clause-stepped : goal.returns-clause-stepped
returns-clause-stepped c = λ journal request at rightly stepped.
    returns-clause-marks c stepped.grown stepped.follows
    (subst (λ (j : List Event). AreHeldRightly j c.args.self.now.threads) (sym (before_grown journal request at c.args.kernel.now stepped)) rightly)
