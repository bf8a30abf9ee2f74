use Rattle.std.proofs.Common.{sym, ap, ◌∙◌, take}
use Rattle.std.specs.Str.{bytes_eq}
use Rattle.indexmap.specs.IndexMap.{insert_entry}
use Rattle.ada_statements.proofs.Placed.{inserted_next}
use Rattle.ada_statements.proofs.names.Names.copy.Goals as goal

pub loop-place-preserved : goal.loop-place-preserved
loop-place-preserved c =
    let entries = c.self.inside.table.entries in
    let place = c.loop-place.place in
    c.in_ok-insert.ensures.ok
    ∙ ap (λ names. insert_entry bytes_eq names c.in-Some.name.now c.in_ok-copy.field-0) c.loop-place.invariant
    ∙ ap (insert_entry bytes_eq (take place entries) c.in-Some.name.now) c.in_ok-copy.ensures
    ∙ inserted_next entries place c.in-Some.name.now c.in-Some.meaning.now c.len-place-end.ensures.unique (sym c.in-Some.ensures.entry)
