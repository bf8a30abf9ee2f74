use Rattle.std.proofs.Common.{sym, ap, ◌∙◌, get_or, ◌/◌}
use Rattle.ada_agenda.proofs.ThreeLevels.{levels_emptied}
use Rattle.ada_agenda.proofs.levels.take.Goals as goal

pub returns-then-low-number-eq0-clause-levels : goal.returns-then-low-number-eq0-clause-levels
returns-then-low-number-eq0-clause-levels c =
    rw (c.remove.ensures.words, c.take_head.ensures.mid)
    (levels_emptied c.args.low.now c.args.mid.now c.args.top.now c.take_head.new.top c.args.number c.requires.levels c.requires.within
    (ap (λ words. get_or words (c.args.number / 64) 0) (sym c.remove.ensures.words) ∙ c.if-low-number-eq0.true)
    (rw (sym c.take_head.ensures.mid) c.take_head.ensures.top) c.take_head.ensures.many)
