use Rattle.std.proofs.Common.{arith}
use Rattle.ada_laws.proofs.asking.LimitLaws.{events_are_few}
use Rattle.ada_agenda.proofs.Noting.{next_fits}
use Rattle.ada_view.proofs.view.View.next_position.Goals as goal

pub overflow_add-result : goal.overflow_add-result
overflow_add-result c = record { fits = omega (arith, c.len.ensures, events_are_few c.self.inside.journal.now.events c.self.invariant.lawful) }

pub returns-clause-fits : goal.returns-clause-fits
returns-clause-fits c = rw c.len.ensures (next_fits c.self.inside.journal.now.events c.self.invariant.lawful)
