use Rattle.std.proofs.Common.{arith}
use Rattle.ada_compact.proofs.Nesting.{same_more}
use Rattle.ada_compact.proofs.comparison.Comparison.are_same_layers.Goals as goal

-- one more member is alike
pub loop-place-preserved : goal.loop-place-preserved
loop-place-preserved c =
    same_more c.args.self.now.old c.args.self.now.new _ c.args.old.now c.args.new.now c.loop-place.place _ _
    c.loop-place-test.true (omega (arith, c.loop-place-test.true, c.if-old-new.false))
    (c.is_same_layer.ensures c.if-not-is_same_layer.false) c.loop-place.invariant
