use Rattle.std.proofs.Common.{◌∙◌, sym}
use Rattle.ada_admission.proofs.Doubling.{own_are_few}
use Rattle.ada_admission.proofs.activation.is_not_to_activate.Goals as goal

pub has_double_task-requires : goal.has_double_task-requires
has_double_task-requires c =
    own_are_few c.args.view.now c.args.by.0 c.args.tasks.now c.requires (sym c.lists_anothers.ensures ∙ c.if-lists_anothers.false)
