use Rattle.std.proofs.Common.{sym, ◌∙◌}
use Rattle.ada_compact.proofs.Equal.{pointwise_same, same_choice}
use Rattle.ada_lasting.proofs.comparing.are_same_choices.Goals as goal

pub returns : goal.returns
returns c = λ same. pointwise_same same_choice c.args.choices.now c.args.others.now (sym c.eq.ensures ∙ same)
