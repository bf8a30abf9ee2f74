use Rattle.std.proofs.Common.{sym, ◌∙◌}
use Rattle.ada_compact.proofs.Equal.{pointwise_same}
use Rattle.ada_lasting.proofs.Compared.{same_task}
use Rattle.ada_lasting.proofs.comparing.are_same_tasks.Goals as goal

pub returns : goal.returns
returns c = λ same. pointwise_same same_task c.args.tasks.now c.args.others.now (sym c.eq.ensures ∙ same)
