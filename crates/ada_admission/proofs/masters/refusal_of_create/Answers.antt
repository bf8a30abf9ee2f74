use Rattle.std.proofs.Common.{sym, ◌∙◌}
use Rattle.std.proofs.lemmas.Bool.{or_parts}
use Rattle.ada_events.specs.Phases.{is_completed, is_terminated, has_ended}
use Rattle.ada_laws.proofs.asking.Accepting.{running_live}
use Rattle.ada_admission.proofs.masters.refusal_of_create.Goals as goal

pub is_reached-requires-clause-live : goal.is_reached-requires-clause-live
unfolding has_ended
is_reached-requires-clause-live c =
    (or_parts (is_completed c.args.view.now c.args.by.0) (is_terminated c.args.view.now c.args.by.0)
    (running_live c.args.view.now c.args.by.0 (sym c.is_running.ensures ∙ c.if-not-is_running.false))).1
