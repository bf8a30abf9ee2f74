use Rattle.std.proofs.Common.{◌∙◌, sym}
use Rattle.std.proofs.lemmas.Bool.{true≢false}
use Rattle.ada_triggers.proofs.Uncallable.{callers_put, no_callers_put}
use Rattle.ada_triggers.proofs.sweeps.put_uncallable_calls.Goals as goal
use Rattle.ada_triggers.proofs.sweeps.put_uncallable_calls.Goals.{else-not-is_uncallable-via-then-not-is_uncallable+else-may_be_called}
use Rattle.ada_triggers.proofs.sweeps.put_uncallable_calls.Goals.{else-not-is_uncallable-via-else-not-is_uncallable}

pub returns-then-may_be_called : goal.returns-then-may_be_called
returns-then-may_be_called c =
    callers_put c.args.view.now c.args.agenda.now c.put_all_callers.new.agenda c.args.callee.0 c.may_be_called.ensures.lawful c.put_all_callers.ensures

pub returns-else-not-is_uncallable : goal.returns-else-not-is_uncallable
returns-else-not-is_uncallable c =
    no_callers_put c.args.view.now c.args.agenda.now c.args.callee.0 (λ was p of.
    elim c.else-not-is_uncallable.branch [
      | else-not-is_uncallable-via-then-not-is_uncallable+else-may_be_called w ↦ true≢false (sym (w.may_be_called.ensures.open p of) ∙ w.if-may_be_called.false)
      | else-not-is_uncallable-via-else-not-is_uncallable w ↦ true≢false (sym (sym c.is_uncallable.ensures ∙ w.if-not-is_uncallable.false) ∙ was)
    ])
