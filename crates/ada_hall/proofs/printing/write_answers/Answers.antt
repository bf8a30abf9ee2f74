use Rattle.std.proofs.Common.{inl, refl}
use Rattle.ada_hall.proofs.Printed.{nothing_cut}
use Rattle.ada_hall.proofs.printing.write_answers.Goals as goal

pub returns-in_default-clause-err : goal.returns-in_default-clause-err
returns-in_default-clause-err g c =
    let history = c.answers-answers.ensures.history in (
      inl refl,
      nothing_cut g.J.Session.script c.args.hall.now.answers c.args.hall.now.showing.journal (g.W.Write.contents c.args.writer.now)
          history.text history.last (history.given, history.goes_on.journal),
    )
