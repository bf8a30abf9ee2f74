use Rattle.ada_agenda.proofs.ThreeLevels.{levels_put}
use Rattle.ada_agenda.proofs.levels.put.Goals as goal

pub returns-clause-levels : goal.returns-clause-levels
returns-clause-levels c =
    rw (c.insert.ensures.words, c.insert-2.ensures.words, c.insert-3.ensures.words)
    (levels_put c.args.low.now c.args.mid.now c.args.top.now c.args.number c.requires.levels c.requires.within)
