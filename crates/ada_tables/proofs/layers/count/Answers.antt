use Rattle.std.proofs.Common.{sym, arith, ◌∙◌}
use Rattle.std.proofs.lemmas.List.{get_or_default}
use Rattle.ada_tables.proofs.Counting.{counting_goes_on, counting_stops, counting_ends}
use Rattle.ada_tables.specs.internal.Changes.{changed}
use Rattle.ada_tables.proofs.layers.count.Goals as goal

pub loop-layer-preserved : goal.loop-layer-preserved
loop-layer-preserved c =
    counting_goes_on (changed c.args.change) c.args.block c.args.layers.now c.loop-layer.layers c.loop-layer.layer-index c.loop-layer.invariant _
    c.counted.result
    (omega arith) (get_or_default c.loop-layer.layers c.loop-layer.layer-index _ _ (omega arith)) c.counted.ensures
    (sym c.is_block_at.ensures ∙ c.if-is_block_at.false)

pub returns-after-loop-layer : goal.returns-after-loop-layer
returns-after-loop-layer c =
    sym (counting_ends (changed c.args.change) c.args.block c.args.layers.now c.loop-layer.layers c.loop-layer.layer-index c.loop-layer.invariant (omega arith))

pub returns-then-is_block_at : goal.returns-then-is_block_at
returns-then-is_block_at c =
    sym (counting_stops (changed c.args.change) c.args.block c.args.layers.now c.loop-layer.layers c.loop-layer.layer-index c.loop-layer.invariant _
    c.counted.result
    (omega arith) (get_or_default c.loop-layer.layers c.loop-layer.layer-index _ _ (omega arith)) c.counted.ensures
    (sym c.is_block_at.ensures ∙ c.if-is_block_at.true))
