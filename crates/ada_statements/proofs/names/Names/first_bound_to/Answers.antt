use Rattle.std.proofs.Common.{sym, ◌∙◌}
use Rattle.ada_statements.specs.Binding.{is_bound_to}
use Rattle.ada_statements.proofs.Found.{find_at, find_behind, find_past, find_missing}
use Rattle.ada_statements.proofs.names.Names.first_bound_to.Goals as goal

pub returns-in_default : goal.returns-in_default
returns-in_default c =
    rw (← c.self.view_is) (sym (find_missing (λ entry. is_bound_to c.args.bound entry.1) c.self.inside.table.entries c.loop-place.place
    (sym c.in_default.ensures.entry)) ∙ c.loop-place.invariant)

pub returns-then-is_bound_to : goal.returns-then-is_bound_to
returns-then-is_bound_to c =
    rw (← c.self.view_is) (sym (find_at (λ entry. is_bound_to c.args.bound entry.1) c.self.inside.table.entries c.loop-place.place
    (c.in-Some.name.now, c.in-Some.meaning.now) (sym c.in-Some.ensures.entry) (sym c.is_bound_to.ensures ∙ c.if-is_bound_to.true)) ∙ c.loop-place.invariant)

pub loop-place-preserved : goal.loop-place-preserved
loop-place-preserved c =
    find_behind (λ entry. is_bound_to c.args.bound entry.1) c.self.inside.table.entries c.loop-place.place (c.in-Some.name.now, c.in-Some.meaning.now)
    (sym c.in-Some.ensures.entry) (sym c.is_bound_to.ensures ∙ c.if-is_bound_to.false) ∙ c.loop-place.invariant

pub returns : goal.returns
returns c =
    rw (← c.self.view_is) (sym (find_past (λ entry. is_bound_to c.args.bound entry.1) c.self.inside.table.entries c.loop-place.place
    (rw (← c.len-place-end.ensures.len) c.loop-place-test.false)) ∙ c.loop-place.invariant)
