use Rattle.std.proofs.Common.{◌∙◌, ◌<◌, ap, sym, subst}
use Rattle.ada_events.specs.Holders.{has_block}
use Rattle.ada_tables.specs.Dependents.{Facts}
use Rattle.ada_view.proofs.view.View.is_within.Goals as goal

pub nest-requires : goal.nest-requires
nest-requires c = subst (λ n. c.args.by.0 < n) (sym c.tables.ensures.stand.many) c.requires

pub returns : goal.returns
returns c =
    c.has_block.ensures
    ∙ ap (has_block c.args.block) (c.nest.ensures ∙ ap (λ (f : Facts). f.nest) (c.tables.ensures.stand.tasks c.args.by.0 c.requires))
