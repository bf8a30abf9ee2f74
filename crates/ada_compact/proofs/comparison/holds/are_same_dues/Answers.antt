use Rattle.std.proofs.Common.{sym, ◌∙◌}
use Rattle.ada_compact.proofs.Equal.{pointwise_same, same_due}
use Rattle.ada_compact.proofs.comparison.holds.are_same_dues.Goals as goal

pub returns : goal.returns
returns c = λ same. sym (pointwise_same same_due c.args.old.now c.args.new.now (sym c.eq.ensures ∙ same))
