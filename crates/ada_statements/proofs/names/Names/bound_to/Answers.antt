use Rattle.std.proofs.Common.{◌∙◌, slice_get, ap}
use Rattle.ada_statements.specs.Binding.{bound_to}
use Rattle.ada_statements.proofs.Placed.{looked_up_here, looked_up_nowhere}
use Rattle.ada_statements.proofs.names.Names.bound_to.Goals as goal

pub returns-in-Some-get : goal.returns-in-Some-get
returns-in-Some-get c =
    c.get_index.ensures.entry ∙ ap (slice_get c.self.inside.table.entries) c.from.ensures
    ∙ looked_up_here c.self.inside.table.entries c.self.invariant c.in-Some.places c.in-Some.is c.args.bound c.get.result c.in-Some-get.place c.get.ensures
    c.in-Some-get.is
    ∙ ap (λ names. bound_to names c.args.bound) c.self.view_is

pub returns-in-None-get : goal.returns-in-None-get
returns-in-None-get c =
    looked_up_nowhere c.self.inside.table.entries c.self.invariant c.in-Some.places c.in-Some.is c.args.bound c.get.result c.get.ensures c.in-None-get.is
    ∙ ap (λ names. bound_to names c.args.bound) c.self.view_is
