use Rattle.std.proofs.Common.{ℕ, List, slice_get, sym, ap, ◌∙◌}
use Rattle.std.proofs.lemmas.Option.{slice_get-get_or}
use Rattle.ada_explore.proofs.Choosing.{one_more_line}
use Rattle.ada_explore.proofs.space.Space.add_lines.Goals as goal

pub loop-place-preserved : goal.loop-place-preserved
loop-place-preserved c =
    let at = c.loop-place.place-index in
    one_more_line _ _ _ _ _ _ _ at _
    (ap (λ (xs : List ℕ). slice_get xs at) (sym c.left-place-items.ensures) ∙ slice_get-get_or c.left-place-items.result.now at 0 c.loop-place-test.true)
    c.loop-place.invariant c.in_ok-add_line.ensures
