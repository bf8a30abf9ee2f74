use Rattle.std.proofs.Common.{◌≡◌}
use Rattle.ada_agenda.specs.Rows.{weight}
use Rattle.ada_kernel.specs.internal.Indexes.{IsIndexOf}
use Rattle.ada_kernel.proofs.answering.IndexEngine.advance.Given as goal

abbrev pub invariant-loop-row : goal.invariant-loop-row
invariant-loop-row l = IsIndexOf l.self l.journal.events × (l.journal ≡ l.initial.journal)

abbrev pub decreases-loop-row : goal.decreases-loop-row
decreases-loop-row l = weight l.self.agenda
