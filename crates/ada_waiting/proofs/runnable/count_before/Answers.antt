use Rattle.std.proofs.Common.{◌≡◌, ◌≤◌, ◌-◌, ℕ, zero, suc, ◌∙◌, sym, ap, List, length, reverse, take, refl, arith}
use Rattle.ada_events.specs.declared.event.Event.{Event}
use Rattle.ada_waiting.specs.Runnable.{is_step, before_last}
use Rattle.ada_waiting.proofs.Groups.{before_last_at}
use Rattle.ada_waiting.proofs.runnable.count_before.Goals.{then-loop-left-test+else-is_step, else-loop-left-test}
use Rattle.ada_waiting.proofs.runnable.count_before.Goals as goal

pub returns-clause-many : goal.returns-clause-many
unfolding before_last
returns-clause-many c =
    elim c.loop-left-test.branch [
      | then-loop-left-test+else-is_step w ↦
          c.saturating_sub.ensures
          ∙ sym (before_last_at c.args.events.now c.loop-left.left w.index-events-left.result w.loop-left-test.true c.loop-left.invariant.0
          (ap is_step (sym w.index-events-left.is) ∙ sym w.is_step.ensures ∙ w.if-is_step.false))
          ∙ ap length c.loop-left.invariant.1
      | else-loop-left-test w ↦
          c.saturating_sub.ensures ∙ none c.args.events.now c.loop-left.left w.loop-left-test.false ∙ ap length c.loop-left.invariant.1
    ]
  where
    none : (events : List Event) (left : ℕ) → left ≤ 0 → left - 1 ≡ length (before_last (reverse (take left events)))
    none events zero low = refl
    none events (suc n) low = absurd (omega (arith, low))
