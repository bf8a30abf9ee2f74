use Rattle.std.proofs.Common.{◌∙◌, sym}
use Rattle.std.proofs.lemmas.Bool.{not-true}
use Rattle.ada_records.proofs.holding.Walking.{same_dependents}
use Rattle.ada_view.proofs.QuittingDependents.{elsewhere_apart}
use Rattle.ada_view.proofs.touched.is_dependent.Goals as goal

pub returns-then-not-kept : goal.returns-then-not-kept
returns-then-not-kept c live =
    elsewhere_apart c.args.view.now c.args.task.0 c.args.master c.requires.quits live
    (sym c.record-kept.ensures.right.suspension.quittable ∙ not-true c.record-kept.result.suspension.quittable c.if-not-kept.true)

pub returns : goal.returns
returns c live =
    c.depends_on.ensures
    ∙ same_dependents _ c.args.view.now c.tables.ensures.lawful
    (record { many = c.tables.ensures.stand.many; facts = c.tables.ensures.stand.tasks })
    c.args.master c.args.task.0 c.requires.known live
