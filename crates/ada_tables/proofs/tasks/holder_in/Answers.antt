use Rattle.std.proofs.Common.{◌<◌, arith, sym, ◌∙◌}
use Rattle.ada_tables.proofs.Parents.{goes_by}
use Rattle.ada_tables.proofs.tasks.holder_in.Goals as goal

pub loop-number-preserved : goal.loop-number-preserved
loop-number-preserved c =
    let later : c.loop-number.number < c.loop-number.invariant.0.task = goes_by c.args.block c.args.tasks.now c.loop-number.number c.index-tasks-number.result
    c.loop-number.invariant.0 c.loop-number.invariant.1 (sym c.has_block.ensures ∙ c.loop-number-test.true) in
    (c.loop-number.invariant.0, omega arith)
