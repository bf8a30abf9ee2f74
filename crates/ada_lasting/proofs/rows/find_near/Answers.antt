use Rattle.std.proofs.Common.{◌≡◌, ◌^◌, Some, get_or, sym, ap, ◌∙◌}
use Rattle.ada_lasting.specs.declared.rows.Row.{Row}
use Rattle.ada_lasting.specs.Naming.{found}
use Rattle.ada_lasting.proofs.Finding.{no_row, found_at}
use Rattle.ada_lasting.proofs.rows.find_near.Goals as goal

pub returns-in-Some : goal.returns-in-Some
returns-in-Some c =
    let here = c.in-Some.ensures.lookup.3 in
    let row : c.in-Some.row.now ≡ get_or c.args.rows.now c.args.likely no_row = here.1 no_row in
    let same : (get_or c.args.rows.now c.args.likely no_row).lasting ≡ c.args.lasting = sym (ap (λ (r : Row). r.lasting) row) ∙ c.if-row-lasting.true in
    ap (λ (r : Row). Some r.present) row
    ∙ (sym (found_at c.args.rows.now 0 (2 ^ 64) c.args.likely c.requires here.0) ∙ ap (found c.args.rows.now) same)
