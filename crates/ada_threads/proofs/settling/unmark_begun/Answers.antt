use Rattle.std.proofs.Common.{map, refl, sym, ap, subst, ◌∙◌}
use Rattle.ada_threads.specs.Going.{AreHeldRightly, unmarked}
use Rattle.ada_threads.specs.internal.Settling.{AreUnmarkedBelow, has_begun}
use Rattle.ada_threads.proofs.Beginners.{all_unmarked, below_none, found_unbegun, next_unmarked, none_unbegun, same_but_marks, still_rightly}
use Rattle.ada_threads.proofs.settling.unmark_begun.Goals as goal

pub loop-init : goal.loop-init
loop-init c =
    record {
      begun = λ journal follows. below_none (has_begun journal c.args.kernel.now) c.args.threads.now;
      marks = λ journal rightly. rightly;
      others = refl;
    }

pub returns-in_default-clause-begun : goal.returns-in_default-clause-begun
returns-in_default-clause-begun c = λ all journal follows.
    all_unmarked (has_begun journal c.args.kernel.now) c.loop.from c.loop.threads
    (none_unbegun journal c.args.kernel.now c.loop.from (sym c.in_default.is ∙ c.first_runnable.ensures journal follows))
    (c.loop.invariant.begun journal follows)

pub returns-in_default-clause-marks : goal.returns-in_default-clause-marks
returns-in_default-clause-marks c = c.loop.invariant.marks

pub returns-in_default-clause-others : goal.returns-in_default-clause-others
returns-in_default-clause-others c = c.loop.invariant.others

pub returns-then-task-clause-marks : goal.returns-then-task-clause-marks
returns-then-task-clause-marks c = c.loop.invariant.marks

pub returns-then-task-clause-others : goal.returns-then-task-clause-others
returns-then-task-clause-others c = c.loop.invariant.others

pub loop-preserved : goal.loop-preserved
loop-preserved c =
    record {
      begun = λ journal follows.
          subst (AreUnmarkedBelow (has_begun journal c.args.kernel.now) _) (sym c.unmark.ensures)
          (next_unmarked (has_begun journal c.args.kernel.now) c.loop.from c.in-Some.task c.loop.threads
          (found_unbegun journal c.args.kernel.now c.loop.from c.in-Some.task (sym c.in-Some.is ∙ c.first_runnable.ensures journal follows))
          (c.loop.invariant.begun journal follows));
      marks = λ journal rightly.
          subst (AreHeldRightly journal) (sym c.unmark.ensures)
          (still_rightly c.in-Some.task c.loop.threads journal (c.loop.invariant.marks journal rightly));
      others = ap (map unmarked) c.unmark.ensures ∙ (same_but_marks c.in-Some.task c.loop.threads ∙ c.loop.invariant.others);
    }

pub returns-else-task-clause-marks : goal.returns-else-task-clause-marks
returns-else-task-clause-marks c = λ journal rightly.
    subst (AreHeldRightly journal) (sym c.unmark.ensures)
    (still_rightly c.in-Some.task c.loop.threads journal (c.loop.invariant.marks journal rightly))

pub returns-else-task-clause-others : goal.returns-else-task-clause-others
returns-else-task-clause-others c = ap (map unmarked) c.unmark.ensures ∙ (same_but_marks c.in-Some.task c.loop.threads ∙ c.loop.invariant.others)
