use Rattle.std.proofs.Common.{◌∙◌, sym, ap, refl, List}
use Rattle.std.specs.List.{list_any}
use Rattle.ada_events.specs.declared.names.Choice.{Choice}
use Rattle.ada_events.specs.declared.names.Member.{Member}
use Rattle.ada_events.specs.Refusals.{first_cause, is_rendezvous_for}
use Rattle.ada_admission.proofs.Causes.{wait_causes_by_nest}
use Rattle.ada_admission.proofs.waits.refused_by_nest.Goals as goal

pub returns-then-nests_some_family : goal.returns-then-nests_some_family
unfolding first_cause
returns-then-nests_some_family c pick =
    sym (wait_causes_by_nest c.args.view.now c.args.by c.args.choices.now c.args.tail.now pick
    ∙ rw (ap (λ (nest : List Member). list_any (λ (x : Choice). list_any (is_rendezvous_for c.args.view.now x.entry.family) nest) c.args.choices.now)
    (sym c.nest-nest.ensures) ∙ sym c.nests_some_family.ensures ∙ c.if-nests_some_family.true) refl)
