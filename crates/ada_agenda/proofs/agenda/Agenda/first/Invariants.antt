use Rattle.std.proofs.Common.{◌≡◌}
use Rattle.ada_agenda.specs.Bits.{word_sum}
use Rattle.ada_agenda.specs.internal.Rows.{AreFilled}
use Rattle.ada_agenda.proofs.agenda.Agenda.first.Given as goal

abbrev pub invariant-loop-self : goal.invariant-loop-self
invariant-loop-self l = (l.self-inside.rows ≡ l.initial.self-inside.rows) × AreFilled l.self-inside.rows.items l.self-inside.filled

abbrev pub decreases-loop-self : goal.decreases-loop-self
decreases-loop-self l = word_sum l.self-inside.filled
