use Rattle.std.proofs.Common.{refl, arith}
use Rattle.std.proofs.Common.{[]}
use Rattle.std.proofs.lemmas.List.{get_or_past}
use Rattle.ada_agenda.proofs.ThreeLevels.{levels_none, none_held, zeros, zeros_held}
use Rattle.ada_agenda.proofs.numbers.Numbers.new.Goals as goal

pub invariant_of-result : goal.invariant_of-result
invariant_of-result c =
    let low = c.in_ok-low.ensures in (
      levels_none c.in_ok-low.low.items (zeros 17) (zeros 1) (λ w. rw low.items (get_or_past [] w 0 (omega arith))) (zeros_held 17) (zeros_held 1)
          (rw low.items (omega arith)) refl refl,
      low.capacity,
    )

pub returns : goal.returns
returns c = λ k. rw c.in_ok-low.ensures.items (none_held [] k (λ w. get_or_past [] w 0 (omega arith)))
