use Rattle.std.proofs.Common.{◌≡◌, Some, false, sym, ap, subst, ◌∙◌}
use Rattle.std.specs.List.{position}
use Rattle.std.specs.Map.{keys_of}
use Rattle.std.specs.Str.{bytes_eq}
use Rattle.ada_statements.specs.Scope.{Scope, is_declared}
use Rattle.ada_statements.specs.Binding.{with_meaning}
use Rattle.ada_statements.specs.internal.Places.{bound_by}
use Rattle.indexmap.specs.IndexMap.{set_value_at}
use Rattle.ada_statements.proofs.BoundNames.{with_meaning-absent}
use Rattle.ada_statements.proofs.Placed.{set_at_place, rebound_kept, nothing_is_there}
use Rattle.ada_statements.proofs.names.Names.bind_name.Goals as goal
use Rattle.ada_statements.proofs.names.Names.bind_name.Goals.{in-Some-2, in-None-2, in-Some-3, in-None-3}

pub returns-in_default : goal.returns-in_default
returns-in_default c =
    let found = subst (λ (names : Scope). false ≡ is_declared names c.args.name.now) (sym c.self.view_is) c.in_default.ensures.found in
    rw (← c.self.view_is) (sym (with_meaning-absent c.args.name.now c.self.inside.table.entries (bound_by c.args.binding) (nothing_is_there _ found)))

pub invariant_of-self-then-not-was_bound-2 : goal.invariant_of-self-then-not-was_bound-2
invariant_of-self-then-not-was_bound-2 c =
    rebound_kept c.self.inside.table.entries c.in-Some.place c.in-Some-get_index_mut.meaning.now c.bind.new.self c.self.inside.places c.take-places.result
    c.with_place.result
    c.take-places.ensures.value (sym c.in-Some-get_index_mut.ensures.value) (c.is_bound-was_bound.ensures c.if-not-was_bound.true) c.self.invariant
    c.with_place.ensures

pub returns-then-not-was_bound : goal.returns-then-not-was_bound
returns-then-not-was_bound c =
    let entries = c.self.inside.table.entries in
    let first : position (bytes_eq c.args.name.now) (keys_of entries) ≡ Some c.in-Some.place =
    subst (λ (names : Scope). position (bytes_eq c.args.name.now) (keys_of names) ≡ Some c.in-Some.place) (sym c.self.view_is) (sym c.in-Some.ensures.place) in
    let changed = ap (set_value_at entries c.in-Some.place) c.bind.ensures
    ∙ set_at_place c.args.name.now (bound_by c.args.binding) c.in-Some-get_index_mut.meaning.now entries c.in-Some.place first
    (sym c.in-Some-get_index_mut.ensures.value)
    ∙ ap (λ names. with_meaning names c.args.name.now (bound_by c.args.binding)) c.self.view_is in
    elim c.match-self-with_place.branch [ in-Some-2 w ↦ w.self-is ∙ changed | in-None-2 w ↦ w.self-is ∙ changed ]

pub returns-else-not-was_bound : goal.returns-else-not-was_bound
returns-else-not-was_bound c =
    let entries = c.self.inside.table.entries in
    let first : position (bytes_eq c.args.name.now) (keys_of entries) ≡ Some c.in-Some.place =
    subst (λ (names : Scope). position (bytes_eq c.args.name.now) (keys_of names) ≡ Some c.in-Some.place) (sym c.self.view_is) (sym c.in-Some.ensures.place) in
    let changed = ap (set_value_at entries c.in-Some.place) c.bind.ensures
    ∙ set_at_place c.args.name.now (bound_by c.args.binding) c.in-Some-get_index_mut.meaning.now entries c.in-Some.place first
    (sym c.in-Some-get_index_mut.ensures.value)
    ∙ ap (λ names. with_meaning names c.args.name.now (bound_by c.args.binding)) c.self.view_is in
    elim c.match-places-2.branch [ in-Some-3 w ↦ w.self-is ∙ changed | in-None-3 w ↦ w.self-is ∙ changed ]
