use Rattle.std.proofs.Common.{◌≡◌, ◌∙◌, true, sym, ap, refl, w64}
use Rattle.std.proofs.lemmas.Int.{to_z-of_z}
use Rattle.ada_events.specs.Limits.{ends_too_late}
use Rattle.ada_events.specs.Phases.{is_running}
use Rattle.ada_events.specs.Refusals.{first_cause}
use Rattle.ada_events.specs.Tasks.{has_task, moment}
use Rattle.ada_admission.proofs.Causes.{delay_causes}
use Rattle.ada_admission.proofs.delays.refusal_of_delay.Goals as goal

pub returns-then-is_late_delay : goal.returns-then-is_late_delay
unfolding first_cause
returns-then-is_late_delay c =
    let j = c.args.view.now in
    let known : has_task j c.args.by.0 ≡ true = sym c.is_known.ensures.known ∙ c.if-not-is_known.false in
    let runs : is_running j c.args.by.0 ≡ true = sym c.is_running.ensures ∙ c.if-not-is_running.false in
    let late : ends_too_late (moment j) c.args.duration ≡ true =
    ap (ends_too_late (moment j)) (sym (to_z-of_z w64 c.args.duration c.ranges.duration)) ∙ sym c.is_late_delay.ensures ∙ c.if-is_late_delay.true in
    sym (delay_causes j c.args.by c.args.duration ∙ rw (known, runs, late) refl)
