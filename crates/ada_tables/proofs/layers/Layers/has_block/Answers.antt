use Rattle.std.proofs.Common.{sym, ◌∙◌}
use Rattle.ada_tables.proofs.Nests.{has_block-members}
use Rattle.ada_tables.proofs.layers.Layers.has_block.Goals as goal

pub returns : goal.returns
returns c = rw (← c.self.view_is) (rw (← c.as_slice.ensures.value) (c.has_block.ensures ∙ sym (has_block-members c.args.block c.as_slice.result.now)))
