use Rattle.ada_agenda.proofs.RowsHeld.{none_kept}
use Rattle.ada_agenda.proofs.agenda.Agenda.first.Goals as goal

pub returns-clause-none : goal.returns-clause-none
returns-clause-none c = none_kept c.loop-self.self-inside.rows.items c.loop-self.self-inside.filled c.loop-self.invariant.1 c.loop-self-test.false
