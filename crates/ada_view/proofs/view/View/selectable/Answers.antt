use Rattle.std.proofs.Common.{◌∙◌, ap, ◌++◌, ◌∷◌, []}
use Rattle.std.specs.Prelude.{if◌then◌else◌}
use Rattle.ada_events.specs.Waits.{is_selectable}
use Rattle.ada_events.proofs.Lists.{numbers_from_step}
use Rattle.ada_view.proofs.view.View.selectable.Goals as goal

pub loop-i-preserved : goal.loop-i-preserved
loop-i-preserved c =
    numbers_from_step (is_selectable c.args.self.now c.args.task.0) c.args.choices.now c.loop-i.i _ c.loop-i.numbers c.push_if.new.numbers
    c.loop-i-test.true c.loop-i.invariant
    (c.push_if.ensures ∙ ap (λ b. c.loop-i.numbers ++ (if b then c.loop-i.i ∷ [] else [])) c.is_selectable.ensures)
