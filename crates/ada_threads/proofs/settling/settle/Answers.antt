use Rattle.std.proofs.Common.{sym, subst, ◌∙◌}
use Rattle.ada_lasting.specs.Following.{before_shown}
use Rattle.ada_threads.specs.Going.{AreHeldRightly}
use Rattle.ada_threads.proofs.Ending.{anew_rightly, rightly_after}
use Rattle.ada_threads.proofs.settling.settle.Goals as goal

pub returns-then-has_ended_any-clause-marks : goal.returns-then-has_ended_any-clause-marks
returns-then-has_ended_any-clause-marks c = λ journal follows rightly.
    subst (AreHeldRightly journal) (sym (c.mark_anew.ensures.marks journal follows)) (anew_rightly journal c.then-has_ended_any.threads)

pub returns-else-not-unmark_begun-clause-marks : goal.returns-else-not-unmark_begun-clause-marks
returns-else-not-unmark_begun-clause-marks c = λ journal follows rightly.
    rightly_after journal c.args.kernel.now c.unmark_begun.new.threads (sym (sym (c.has_ended_any.ensures journal follows) ∙ c.if-has_ended_any.false))
    (c.unmark_begun.ensures.begun c.if-not-unmark_begun.false journal follows)
    (c.unmark_begun.ensures.marks (before_shown journal c.args.kernel.now) rightly)
