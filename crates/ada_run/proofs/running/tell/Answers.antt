use Rattle.std.proofs.Common.{subst, arith}
use Rattle.std.proofs.lemmas.Result.{err_from_is_err_and}
use Rattle.ada_replay.specs.Replay.{Tells}
use Rattle.ada_run.proofs.Following.{run_written, run_cut, nothing_run}
use Rattle.ada_run.proofs.running.tell.Goals as goal

pub returns-in_err-look_through-clause-err : goal.returns-in_err-look_through-clause-err
returns-in_err-look_through-clause-err g c =
    let p = err_from_is_err_and c.from_residual.result c.from_residual.ensures.1 in
    rw (p.1, p.2) (nothing_run g.J.Session.script (g.W.Write.contents c.args.writer.now) c.in_err-look_through.field-0.0 c.in_err-look_through.ensures.err)

pub returns-in_err-write_answers-clause-err : goal.returns-in_err-write_answers-clause-err
returns-in_err-write_answers-clause-err g c =
    let hall = c.args.hall.now in
    let p = err_from_is_err_and c.from_residual-in_err-write_answers.result c.from_residual-in_err-write_answers.ensures.1 in
    let short = c.in_err-write_answers.ensures.err in
    rw (p.1, p.2) (
    run_cut g.J.Session.script hall.answers hall.showing.journal (g.W.Write.contents c.args.writer.now) (g.W.Write.contents c.write_answers.new.writer)
    c.in_err-write_answers.field-0.0 c.in_ok-look_through.ensures.ok short.0 short.1)

pub returns-clause-ok : goal.returns-clause-ok
returns-clause-ok g c =
    let hall = c.args.hall.now in
    let (last, written, same) =
    run_written g.J.Session.script hall.answers hall.showing.journal (g.W.Write.contents c.args.writer.now) (g.W.Write.contents c.write_answers.new.writer)
    c.in_ok-look_through.ensures.ok c.in_ok-write_answers.ensures.ok in
    record {
      few = λ many. absurd (omega (arith, c.requires.few, many));
      new = last;
      written = written;
      tells = subst (λ j. Tells c.ending.result j) same c.ending.ensures;
    }
