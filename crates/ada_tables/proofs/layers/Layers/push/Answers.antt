use Rattle.std.proofs.Common.{sym, ap, ◌∙◌}
use Rattle.std.specs.List.{list_any}
use Rattle.ada_tables.specs.internal.Layers.{is_block_at}
use Rattle.ada_tables.proofs.Nests.{has_block-members}
use Rattle.ada_tables.proofs.Once.{once_pushed}
use Rattle.ada_tables.proofs.layers.Layers.push.Goals as goal

pub invariant_of-self : goal.invariant_of-self
invariant_of-self c =
    rw c.push.ensures.items
    (once_pushed c.self.inside.layers.items c.of.result c.self.invariant (λ block is.
    ap (list_any (is_block_at block)) c.self.view_is
    ∙ sym (has_block-members block c.args.self.now)
    ∙ c.requires.fresh block (ap (is_block_at block) (sym c.of.ensures) ∙ is)))
