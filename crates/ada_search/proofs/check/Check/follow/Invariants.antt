use Rattle.std.proofs.Common.{reverse, take}
use Rattle.ada_schedules.specs.Schedules.{Comes}
use Rattle.ada_search.specs.Findings.{at}
use Rattle.ada_search.proofs.check.Check.follow.Given as goal

abbrev pub invariant-loop-choice : goal.invariant-loop-choice
invariant-loop-choice g l = Comes (g.S.Schedules.told l.self.space.now) (reverse (take l.choice-index l.path)) (at l.standing.kernel l.standing.rest)
