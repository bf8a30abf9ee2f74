use Rattle.std.proofs.Common.{sym, ◌∙◌}
use Rattle.ada_lasting.proofs.Compared.{same_numbers}
use Rattle.ada_lasting.proofs.comparing.are_same_numbers.Goals as goal

pub returns : goal.returns
returns c = λ same. same_numbers c.args.event c.args.other (sym c.eq.ensures ∙ same)
