use Rattle.std.proofs.Common.{◌≡◌, sym, ◌∙◌, false, arith}
use Rattle.ada_threads.specs.internal.Settling.{is_end_at}
use Rattle.ada_threads.proofs.Ending.{below_next, ends_any, ends_none}
use Rattle.ada_threads.proofs.settling.has_ended_any.Goals as goal

pub loop-at-init : goal.loop-at-init
loop-at-init c = λ journal follows p below. absurd (omega (arith, below))

pub loop-at-preserved : goal.loop-at-preserved
loop-at-preserved c = λ journal follows.
    below_next (λ p. is_end_at journal c.args.kernel.now p ≡ false) c.loop-at.at (c.loop-at.invariant journal follows)
    (sym (c.ends_at.ensures journal follows) ∙ c.if-ends_at.false)

pub returns-then-ends_at : goal.returns-then-ends_at
returns-then-ends_at c = λ journal follows.
    ends_any journal c.args.kernel.now c.loop-at.at (sym (c.ends_at.ensures journal follows) ∙ c.if-ends_at.true)

pub returns : goal.returns
returns c = λ journal follows.
    ends_none journal c.args.kernel.now (λ at below. c.loop-at.invariant journal follows at (omega (arith, below, c.events-at-end.ensures journal follows)))
