use Rattle.ada_laws.specs.Work.{work_left}
use Rattle.ada_steps.specs.internal.Settling.{IsSettling}
use Rattle.ada_steps.proofs.answering.settle.Given as goal

abbrev pub invariant-loop : goal.invariant-loop
invariant-loop g l = IsSettling l.initial.journal.events l.journal × g.A.Engine.stands l.engine l.journal.events

abbrev pub decreases-loop : goal.decreases-loop
decreases-loop g l = work_left l.journal.events
