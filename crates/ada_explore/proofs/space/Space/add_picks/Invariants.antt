use Rattle.ada_explore.specs.internal.Choosing.{HavePicks}
use Rattle.ada_explore.proofs.space.Space.add_picks.Given as goal

-- so far
abbrev pub invariant-loop-pick : goal.invariant-loop-pick
invariant-loop-pick l = HavePicks l.self.freedom l.self.script.now l.fn.choices.items l.choices.items l.place l.pick
