use Rattle.std.proofs.Common.{refl, sym, ◌∙◌, ap, inr, [], ◌∷◌, ◌++◌}
use Rattle.ada_statements.specs.Text.{words_in}
use Rattle.ada_script.specs.Script.{is_skipped}
use Rattle.ada_script.specs.internal.Reading.{statement_of}
use Rattle.ada_script.proofs.Lines.{of_these}
use Rattle.std.proofs.lemmas.Result.{err_from_is_err_and}
use Rattle.ada_script.proofs.Lines.{says, words_fail}
use Rattle.ada_script.proofs.text.read_line.Goals as goal

pub returns-clause-lines : goal.returns-clause-lines
returns-clause-lines c =
    let statement = c.read_statement.new.statement in
    let says_it = says c.args.names.now c.args.lines.now.items (words_in c.args.line.now) statement c.requires
    (ap (statement_of c.args.names.now) (sym c.new-words.ensures) ∙ c.in_ok-read_statement.ensures.ok) in
    let added = record { line = c.args.number; statement = statement } ∷ [] in (
      added,
      (c.in_ok-check_line.ensures.ok, inr (statement, says_it, refl)),
      c.push_reserved.ensures.items ∙ ap (λ items. items ++ added) c.in_ok-reserve.ensures.items,
    )

pub returns-in_err-read_statement-clause-err : goal.returns-in_err-read_statement-clause-err
returns-in_err-read_statement-clause-err c =
    let p = err_from_is_err_and c.from_residual-in_err-read_statement.result c.from_residual-in_err-read_statement.ensures.1 in
    let fault = c.in_err-read_statement.field-0.0 in
    let skipped = ap is_skipped (sym c.new-words.ensures) ∙ sym c.is_skipped.ensures ∙ c.if-is_skipped.false in
    let plain = c.in_ok-check_line.ensures.ok in
    let fails = of_these c.args.names.now fault c.new-words.ensures c.in_err-read_statement.ensures.err in
    rw (p.1, p.2) (words_fail c.args.most c.args.names.now c.args.lines.now.items c.args.number c.args.line.now fault c.requires plain skipped fails)
