use Rattle.ada_agenda.proofs.ThreeLevels.{none_stand}
use Rattle.ada_agenda.proofs.numbers.Numbers.least.Goals as goal

pub returns-then-self-eq0-clause-none : goal.returns-then-self-eq0-clause-none
returns-then-self-eq0-clause-none c = λ k.
    rw (← c.self.view_is) (none_stand c.self.inside.low.items c.self.inside.mid c.self.inside.top k c.self.invariant.0 c.if-self-eq0.true)
