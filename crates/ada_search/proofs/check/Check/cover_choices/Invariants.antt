use Rattle.ada_search.specs.internal.Covering.{LeadOn}
use Rattle.ada_search.proofs.check.Check.cover_choices.Given as goal

-- so far
abbrev pub invariant-loop-choice : goal.invariant-loop-choice
invariant-loop-choice g l =
    LeadOn (g.S.Schedules.told l.self.space.now) (g.S.Schedules.same l.self.space.now) l.fn.states l.states l.path l.choices l.choice-index
