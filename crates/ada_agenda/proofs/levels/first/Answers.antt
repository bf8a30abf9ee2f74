use Rattle.std.proofs.Common.{arith}
use Rattle.ada_agenda.proofs.Words.{least_of_all}
use Rattle.ada_agenda.proofs.levels.first.Goals as goal

pub returns-clause-least : goal.returns-clause-least
returns-clause-least c =
    let levels = c.requires.levels in
    least_of_all c.args.low.now c.args.mid.now c.least_in-place.result c.least_in.result levels.low_heads
    (least_of_all c.args.mid.now c.args.top.now c.least_in-head.result c.least_in-place.result levels.mid_heads
    (λ w less. c.least_in-head.ensures.least w less (omega arith))
    (omega (arith, c.least_in-place.ensures.within)) c.least_in-place.ensures.least)
    (omega (arith, c.least_in.ensures.within)) c.least_in.ensures.least
