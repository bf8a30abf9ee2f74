use Rattle.std.proofs.Common.{sym, ◌∙◌}
use Rattle.ada_compact.proofs.Equal.{pointwise_same}
use Rattle.ada_lasting.proofs.Compared.{same_dependent}
use Rattle.ada_lasting.proofs.masters.are_same.Goals as goal

pub returns : goal.returns
returns c = λ same. pointwise_same same_dependent c.args.dependents.now c.args.others.now (sym c.eq.ensures ∙ same)
