use Rattle.std.proofs.Common.{arith}
use Rattle.ada_agenda.proofs.Words.{none_past, none_lessened}
use Rattle.ada_agenda.proofs.numbers.Numbers.remove.Goals as goal

pub returns-else-number-len-clause-here : goal.returns-else-number-len-clause-here
returns-else-number-len-clause-here c =
    rw (← c.self.view_is) (none_past c.self.inside.low.items c.args.number (omega (arith, c.if-number-len.false, c.len.ensures)))

pub returns-else-number-len-clause-fewer : goal.returns-else-number-len-clause-fewer
returns-else-number-len-clause-fewer c = none_lessened c.args.self.now c.args.number (returns-else-number-len-clause-here c)
