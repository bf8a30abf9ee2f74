use Rattle.std.proofs.Common.{ℕ, Option, map, sym, ap, ◌∙◌, ◌++◌, ◌∷◌, [], arith}
use Rattle.std.specs.List.{range_with_len}
use Rattle.std.proofs.lemmas.List.FromFn.{map-range_with_len_more}
use Rattle.ada_behaviours.specs.Moves.{first_task}
use Rattle.ada_moves.proofs.rest.first_tasks.Goals as goal

pub loop-object-preserved : goal.loop-object-preserved
loop-object-preserved c =
    let before = map first_task (range_with_len 0 c.loop-object.object) in
    c.in_ok-add.ensures ∙ ap (λ ts. ts ++ c.first_task.result ∷ []) c.loop-object.invariant
    ∙ ap (λ (t : Option ℕ). before ++ t ∷ []) c.first_task.ensures
    ∙ sym (map-range_with_len_more first_task 0 c.loop-object.object c.loop-object.object (omega arith))
