use Rattle.std.proofs.Common.{◌∙◌, ap, ◌++◌, ◌∷◌, []}
use Rattle.std.specs.Prelude.{if◌then◌else◌}
use Rattle.ada_events.specs.Waits.{is_due_exactly}
use Rattle.ada_events.proofs.Lists.{numbers_from_step}
use Rattle.ada_events.proofs.waits.due_exactly.Goals as goal

pub loop-i-preserved : goal.loop-i-preserved
loop-i-preserved c =
    numbers_from_step (is_due_exactly _) c.args.dues.now c.loop-i.i _ c.loop-i.numbers c.push_if.new.numbers c.loop-i-test.true
    c.loop-i.invariant (c.push_if.ensures ∙ ap (λ b. c.loop-i.numbers ++ (if b then c.loop-i.i ∷ [] else [])) c.is_due_exactly.ensures)
