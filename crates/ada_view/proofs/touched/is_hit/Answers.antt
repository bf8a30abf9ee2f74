use Rattle.std.proofs.Common.{sym, ◌∙◌}
use Rattle.ada_view.proofs.Hitting.{named_hit, unnamed_hit}
use Rattle.ada_view.proofs.touched.is_hit.Goals as goal

pub returns-then-flag_of : goal.returns-then-flag_of
returns-then-flag_of c tasks are_named tells live =
    let named = sym (c.flag_of.ensures ∙ are_named c.args.task.0 c.requires.few) in
    c.if-flag_of.true ∙ sym (named_hit c.args.view.now tasks c.args.task.0 (named ∙ c.if-flag_of.true))

pub returns-else-flag_of : goal.returns-else-flag_of
returns-else-flag_of c tasks are_named tells live =
    let named = sym (c.flag_of.ensures ∙ are_named c.args.task.0 c.requires.few) in
    c.hits_holder.ensures tasks tells live ∙ sym (unnamed_hit c.args.view.now tasks c.args.task.0 (named ∙ c.if-flag_of.false))
