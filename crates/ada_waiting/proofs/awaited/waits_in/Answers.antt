use Rattle.std.proofs.Common.{sym, ap, ◌∙◌, refl}
use Rattle.ada_waiting.specs.Awaited.{awaits, waits_for}
use Rattle.ada_waiting.proofs.awaited.waits_in.Goals as goal

pub returns-in-Some : goal.returns-in-Some
unfolding waits_for
returns-in-Some c =
    rw (sym c.reason_in.ensures ∙ c.in-Some.is)
    (c.awaits.ensures ∙ ap (λ j. awaits j c.args.task.0 c.args.other.0 c.in-Some.reason) c.view.ensures)

pub returns-in-None : goal.returns-in-None
unfolding waits_for
returns-in-None c = rw (sym c.reason_in.ensures ∙ c.in-None.is) refl
