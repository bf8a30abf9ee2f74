use Rattle.std.proofs.Common.{◌<◌, arith, ap}
use Rattle.ada_board.proofs.Adding.{taken, next_edition, few_boards}
use Rattle.ada_board.proofs.edition.Edition.extend.Goals as goal

pub overflow_add-self : goal.overflow_add-self
overflow_add-self c =
    let few : c.self.inside.number < 65537 =
    few_boards c.self.inside.number c.args.board.now c.self.inside.reached.log c.args.self.now.boards c.self.invariant.counted
    (ap (λ k. k.boards) c.self.view_is) c.requires.true_list in
    omega (arith, few)

pub invariant_of-self : goal.invariant_of-self
invariant_of-self c =
    next_edition c.self.inside.number c.args.board.now _ c.self.inside.reached.log _ _ c.self.invariant.counted (ap (λ s. s.log) c.again-reached.ensures)
    c.plain-offer.ensures.1
    (taken c.compare_exchange-found.result c.from-number.result c.if-found-number.false c.compare_exchange-found.ensures.7)
