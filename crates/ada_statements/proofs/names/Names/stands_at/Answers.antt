use Rattle.std.proofs.Common.{◌≡◌, Some, sym, ap, ◌∙◌, slice_get, subst}
use Rattle.std.specs.List.{position}
use Rattle.std.specs.Map.{keys_of}
use Rattle.std.specs.Str.{bytes_eq}
use Rattle.ada_statements.specs.Scope.{Scope}
use Rattle.ada_statements.proofs.Placed.{only_place}
use Rattle.ada_statements.proofs.names.Names.stands_at.Goals as goal

pub returns-in-Some-clause-place : goal.returns-in-Some-clause-place
returns-in-Some-clause-place c copy =
    let name = c.args.name.now in
    let here : slice_get c.self.inside.table.entries c.args.place ≡ Some (name, c.in-Some.field-0-1.now) =
    sym c.in-Some.ensures.entry ∙ ap (λ found. Some (found, c.in-Some.field-0-1.now)) (c.is_copy_of.ensures copy) in
    subst (λ (names : Scope). position (bytes_eq name) (keys_of names) ≡ Some c.args.place) c.self.view_is
    (only_place c.self.inside.table.entries c.args.place name c.in-Some.field-0-1.now c.len.ensures.unique here)
