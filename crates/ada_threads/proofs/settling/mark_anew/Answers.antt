use Rattle.std.proofs.Common.{refl, ◌∙◌, arith}
use Rattle.ada_threads.specs.internal.Settling.{marked_anew}
use Rattle.ada_threads.proofs.Mapping.{all_changed, next_changed, none_changed, one_marked}
use Rattle.ada_threads.proofs.settling.mark_anew.Goals as goal

pub loop-thread-init : goal.loop-thread-init
loop-thread-init c = record { threads = λ journal follows. none_changed (marked_anew journal) c.args.threads.now; others = refl }

pub loop-thread-preserved : goal.loop-thread-preserved
loop-thread-preserved c =
    record {
      threads = λ journal follows.
          next_changed (marked_anew journal) c.args.threads.now c.loop-thread.threads c.loop-thread.thread-index _ c.marked_anew.result (omega arith)
          (c.loop-thread.invariant.threads journal follows)
          (c.marked_anew.ensures.mark journal follows);
      others =
          one_marked c.loop-thread.threads c.loop-thread.thread-index _ c.marked_anew.result (omega (arith, c.loop-thread.auto.threads))
          c.marked_anew.ensures.other
          ∙ c.loop-thread.invariant.others;
    }

pub returns-clause-marks : goal.returns-clause-marks
returns-clause-marks c = λ journal follows.
    c.loop-thread.invariant.threads journal follows
    ∙ all_changed (marked_anew journal) c.args.threads.now c.loop-thread.thread-index (omega arith)
