use Rattle.std.proofs.Common.{rules, ◌≡◌, ◌<◌, ◌≤◌, get_or, sym, ap, ◌∙◌, arith}
use Rattle.std.specs.Prelude.{◌^◌}
use Rattle.std.proofs.lemmas.List.Sorted.{answers_always}
use Rattle.std.proofs.lemmas.Cmp.{ranked}
use Rattle.ada_lasting.specs.declared.rows.Row.{Row}
use Rattle.ada_lasting.specs.Naming.{found}
use Rattle.ada_lasting.proofs.Finding.{no_row, found_at, found_nowhere, comparisons_rise}
use Rattle.ada_lasting.proofs.rows.find.Goals as goal

pub returns-in-Ok : goal.returns-in-Ok
returns-in-Ok c =
    let by_key = c.in-Ok.ensures.position (λ (row : Row). row.lasting) (answers_always _ _ _ (λ f a r g called. search rules)) in
    let same : (get_or c.args.rows.now c.in-Ok.at no_row).lasting ≡ c.args.lasting = ranked _ c.args.lasting _ (sym (by_key no_row)) in
    sym (ap (found c.args.rows.now) (sym same) ∙ found_at c.args.rows.now 0 (2 ^ 64) c.in-Ok.at c.requires c.in-Ok.ensures.bound)

pub returns-in-Err : goal.returns-in-Err
returns-in-Err c =
    let parted = c.in-Err.ensures.position (λ (row : Row). row.lasting) (answers_always _ _ _ (λ f a r g called. search rules))
    (comparisons_rise c.args.rows.now 0 (2 ^ 64) c.args.lasting c.requires) in
    sym (found_nowhere c.args.rows.now c.args.lasting (λ i within same.
    let before : i < c.in-Err.field-0 → (get_or c.args.rows.now i no_row).lasting < c.args.lasting =
    λ less. ranked _ c.args.lasting _ (sym (parted.0 i no_row (omega arith) less)) in
    let after : c.in-Err.field-0 ≤ i → c.args.lasting < (get_or c.args.rows.now i no_row).lasting =
    λ le. ranked _ c.args.lasting _ (sym (parted.1 i no_row le within)) in
    grind (arith, before, after, same)))
