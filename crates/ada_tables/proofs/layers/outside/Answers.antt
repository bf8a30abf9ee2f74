use Rattle.std.proofs.Common.{ap, sym, ◌∙◌}
use Rattle.std.specs.Option.{option_or}
use Rattle.std.proofs.lemmas.List.{get_or_default}
use Rattle.ada_tables.proofs.Parents.{outside_none, outside_here, outside_later}
use Rattle.ada_tables.proofs.layers.outside.Goals as goal

pub returns-then-is_block_at : goal.returns-then-is_block_at
returns-then-is_block_at c =
    outside_here c.args.block c.args.layers.now c.loop-layer.layer-index c.loop-layer.before c.loop-layer.invariant _ c.loop-layer-test.true
    (get_or_default c.args.layers.now c.loop-layer.layer-index _ _ c.loop-layer-test.true) (sym c.is_block_at.ensures ∙ c.if-is_block_at.true)

pub loop-layer-preserved : goal.loop-layer-preserved
loop-layer-preserved c =
    outside_later c.args.block c.args.layers.now c.loop-layer.layer-index c.loop-layer.before c.loop-layer.invariant _ c.loop-layer-test.true
    (get_or_default c.args.layers.now c.loop-layer.layer-index _ _ c.loop-layer-test.true) c.or-before.result
    (c.or-before.ensures ∙ ap (λ b. option_or b c.loop-layer.before) c.block.ensures) (sym c.is_block_at.ensures ∙ c.if-is_block_at.false)

pub returns : goal.returns
returns c = outside_none c.args.block c.args.layers.now c.loop-layer.layer-index c.loop-layer.before c.loop-layer.invariant c.loop-layer-test.false
