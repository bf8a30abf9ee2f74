use Rattle.std.proofs.Common.{sym, ◌∙◌, arith, eqb-true}
use Rattle.std.proofs.lemmas.Bool.{eq-eqb}
use Rattle.ada_statements.specs.Text.{line_feed}
use Rattle.ada_script.proofs.CutParts.{parts_behind, parts_of-whole}
use Rattle.ada_script.proofs.cursor.cut_line.Goals as goal

pub returns-in-Some : goal.returns-in-Some
returns-in-Some c =
    let found = c.in-Some.ensures in
    parts_behind line_feed c.args.text.now c.in-Some.at found.0.high (λ k before is. found.0.before k (omega arith) before (eq-eqb _ line_feed is))
    (eqb-true _ line_feed found.1)

pub returns-in-None : goal.returns-in-None
returns-in-None c =
    parts_of-whole line_feed c.args.text.now (sym c.is_empty.ensures ∙ c.if-is_empty.false)
    (λ k within is. c.in-None.ensures k (omega arith) within (eq-eqb _ line_feed is))
