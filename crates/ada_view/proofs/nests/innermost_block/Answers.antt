use Rattle.std.proofs.Common.{◌≡◌, ◌+◌, ◌-◌, ◌<◌, length, take, sym, ap, ◌∙◌, arith}
use Rattle.ada_events.specs.Nests.{innermost_block}
use Rattle.ada_tables.specs.declared.layers.Layer.TheVariants.{Block, Rendezvous}
use Rattle.ada_tables.specs.Layers.{members}
use Rattle.ada_view.proofs.Innermost.{one_more_read}
use Rattle.ada_view.proofs.nests.innermost_block.Goals as goal

pub returns-in-Block : goal.returns-in-Block
unfolding innermost_block
returns-in-Block c =
    let below : c.loop-place.place - 1 < length c.args.layers.now = omega (arith, c.loop-place.invariant.0, c.loop-place-test.true) in
    let at : c.loop-place.place ≡ c.loop-place.place - 1 + 1 = omega (arith, c.loop-place-test.true) in
    sym
    (sym c.loop-place.invariant.1
    ∙ ap (λ n. innermost_block c.args.outer (members (take n c.args.layers.now))) at
    ∙ one_more_read c.args.outer c.args.layers.now (c.loop-place.place - 1) (Block 0 0) (Block c.in-Block.live c.in-Block.opening) below c.in-Block.is)

pub loop-place-preserved : goal.loop-place-preserved
unfolding innermost_block
loop-place-preserved c =
    let below : c.loop-place.place - 1 < length c.args.layers.now = omega (arith, c.loop-place.invariant.0, c.loop-place-test.true) in
    let at : c.loop-place.place ≡ c.loop-place.place - 1 + 1 = omega (arith, c.loop-place-test.true) in (
      omega (arith, below),
      sym
          (sym c.loop-place.invariant.1
          ∙ ap (λ n. innermost_block c.args.outer (members (take n c.args.layers.now))) at
          ∙ one_more_read c.args.outer c.args.layers.now (c.loop-place.place - 1) (Block 0 0) (Rendezvous c.in_default.field-0) below c.in_default.is),
    )

pub returns : goal.returns
unfolding innermost_block
returns c =
    let none : c.loop-place.place ≡ 0 = omega (arith, c.loop-place-test.false) in
    ap (λ n. innermost_block c.args.outer (members (take n c.args.layers.now))) (sym none) ∙ c.loop-place.invariant.1
