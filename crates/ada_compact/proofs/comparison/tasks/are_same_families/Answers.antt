use Rattle.std.proofs.Common.{sym, ◌∙◌}
use Rattle.ada_compact.proofs.Equal.{pointwise_same, same_family}
use Rattle.ada_compact.proofs.comparison.tasks.are_same_families.Goals as goal

pub returns : goal.returns
returns c = λ same. sym (pointwise_same same_family c.args.old.now c.args.new.now (sym c.eq.ensures ∙ same))
