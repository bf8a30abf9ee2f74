use Rattle.std.proofs.Common.{rules, sym, ◌∙◌}
use Rattle.ada_statements.proofs.Bytes.{same_number}
use Rattle.ada_statements.proofs.name.are_same.Goals as goal

pub returns : goal.returns
returns c = λ same.
    same_number c.args.own c.args.others (search rules) (search rules) (search rules) (search rules)
    (sym c.from_le_bytes.ensures ∙ (search rules) ∙ c.from_le_bytes-2.ensures)
