use Rattle.std.proofs.Common.{◌≤◌, ap, subst, arith, length, List}
use mathlib.Core.List.{IsPrefix}
use Rattle.ada_events.specs.declared.board.Board.{Board}
use Rattle.ada_board.proofs.Beginnings.{prefix_shorter}
use Rattle.ada_board.proofs.edition.Edition.advance.Goals as goal

pub returns-then-self-other-clause-own : goal.returns-then-self-other-clause-own
returns-then-self-other-clause-own c =
    let both = c.learn.new.self.log in
    let own : IsPrefix c.self.inside.reached.log both = let P : List Board
    → Type 0 = λ l. IsPrefix l both in subst P (ap (λ s. s.log) c.again-both.ensures) c.learn.ensures.2 in
    let less : length c.self.inside.reached.log ≤ length c.other.inside.reached.log = omega
    (arith, c.self.invariant.counted, c.other.invariant.counted, c.if-self-other.true) in
    rw (c.copy_from.ensures, ← c.self.view_is, ← c.other.view_is)
    (prefix_shorter c.self.inside.reached.log c.other.inside.reached.log both own c.learn.ensures.3 less)

pub returns-clause-others : goal.returns-clause-others
returns-clause-others c =
    let both = c.learn.new.self.log in
    let own : IsPrefix c.self.inside.reached.log both = let P : List Board
    → Type 0 = λ l. IsPrefix l both in subst P (ap (λ s. s.log) c.again-both.ensures) c.learn.ensures.2 in
    let less : length c.other.inside.reached.log ≤ length c.self.inside.reached.log = omega
    (arith, c.self.invariant.counted, c.other.invariant.counted, c.if-self-other.false) in
    rw (← c.self.view_is, ← c.other.view_is) (prefix_shorter c.other.inside.reached.log c.self.inside.reached.log both c.learn.ensures.3 own less)
