use Rattle.std.proofs.Common.{◌≡◌, ◌+◌, ◌-◌, ◌<◌, length, take, sym, ap, ◌∙◌, arith}
use Rattle.ada_tables.specs.declared.layers.Layer.TheVariants.{Block}
use Rattle.ada_tables.specs.internal.Layers.{live_at}
use Rattle.ada_tables.proofs.Once.{live_found, live_shorter}
use Rattle.ada_tables.proofs.layers.live_in.Goals as goal

pub returns-then-is_block_at : goal.returns-then-is_block_at
returns-then-is_block_at c =
    let below : c.loop-place.place - 1 < length c.args.layers.now = omega (arith, c.loop-place.invariant.0, c.loop-place-test.true) in
    c.live.ensures
    ∙ live_found c.args.block (c.loop-place.place - 1) (Block 0 0) c.args.layers.now c.requires below (sym c.is_block_at.ensures ∙ c.if-is_block_at.true)

pub loop-place-preserved : goal.loop-place-preserved
loop-place-preserved c =
    let below : c.loop-place.place - 1 < length c.args.layers.now = omega (arith, c.loop-place.invariant.0, c.loop-place-test.true) in
    let at : c.loop-place.place ≡ c.loop-place.place - 1 + 1 = omega (arith, c.loop-place-test.true) in (
      omega (arith, below),
      sym (live_shorter c.args.block (c.loop-place.place - 1) (Block 0 0) c.args.layers.now below (sym c.is_block_at.ensures ∙ c.if-is_block_at.false))
          ∙ ap (λ n. live_at c.args.block (take n c.args.layers.now)) (sym at)
          ∙ c.loop-place.invariant.1,
    )

pub returns : goal.returns
unfolding live_at
returns c =
    let none : c.loop-place.place ≡ 0 = omega (arith, c.loop-place-test.false) in
    ap (λ n. live_at c.args.block (take n c.args.layers.now)) (sym none) ∙ c.loop-place.invariant.1
