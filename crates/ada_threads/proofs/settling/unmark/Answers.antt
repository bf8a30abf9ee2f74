use Rattle.std.proofs.Common.{◌∙◌, arith}
use Rattle.ada_threads.specs.internal.Settling.{unmarked_of}
use Rattle.ada_threads.proofs.Mapping.{all_changed, next_changed, none_changed}
use Rattle.ada_threads.proofs.settling.unmark.Goals as goal

pub loop-thread-init : goal.loop-thread-init
loop-thread-init c = none_changed (unmarked_of c.args.task) c.args.threads.now

pub loop-thread-preserved : goal.loop-thread-preserved
loop-thread-preserved c =
    next_changed (unmarked_of c.args.task) c.args.threads.now c.loop-thread.threads c.loop-thread.thread-index _ c.unmarked_of.result (omega arith)
    c.loop-thread.invariant c.unmarked_of.ensures

pub returns : goal.returns
returns c = c.loop-thread.invariant ∙ all_changed (unmarked_of c.args.task) c.args.threads.now c.loop-thread.thread-index (omega arith)
