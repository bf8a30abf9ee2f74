use Rattle.std.proofs.lemmas.Result.{err_from_is_err_and}
use Rattle.ada_script.proofs.Lines.{nothing_reads}
use Rattle.ada_script.proofs.TakenStatements.{statement_reads}
use Rattle.ada_script.proofs.statements.read_words.Goals as goal

pub returns-in_err-read_statement-clause-err : goal.returns-in_err-read_statement-clause-err
returns-in_err-read_statement-clause-err c =
    let p = err_from_is_err_and c.from_residual.result c.from_residual.ensures.1 in
    rw (p.1, p.2) (nothing_reads c.args.names.now c.args.words.now c.in_err-read_statement.field-0.0 c.in_err-read_statement.ensures.err)

pub returns-clause-ok : goal.returns-clause-ok
returns-clause-ok c =
    statement_reads c.args.names.now c.args.words.now c.read_statement.new.statement c.in_ok-read_statement.ensures.ok
