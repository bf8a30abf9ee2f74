use Rattle.std.proofs.Common.{sym, ◌∙◌, arith}
use Rattle.ada_statements.specs.Text.{space}
use Rattle.ada_script.proofs.CutParts.{parts_behind, parts_of-whole}
use Rattle.ada_script.proofs.cursor.cut.Goals as goal

pub returns-then-end-bytes : goal.returns-then-end-bytes
returns-then-end-bytes c =
    let end = c.word_length-end.ensures in
    parts_behind space c.args.bytes.now c.word_length-end.result c.if-end-bytes.true end.word (end.end c.if-end-bytes.true)

pub returns-else-end-bytes : goal.returns-else-end-bytes
returns-else-end-bytes c =
    parts_of-whole space c.args.bytes.now (sym c.is_empty.ensures ∙ c.if-is_empty.false)
    (λ k within. c.word_length-end.ensures.word k (omega (arith, c.if-end-bytes.false, within)))
