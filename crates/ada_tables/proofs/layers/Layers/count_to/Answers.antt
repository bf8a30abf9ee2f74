use Rattle.std.proofs.Common.{length, sym, ap, ◌∙◌, subst}
use Rattle.std.proofs.lemmas.List.{take_at}
use Rattle.ada_tables.specs.internal.Changes.{changed}
use Rattle.ada_tables.specs.internal.Layers.{AreOnce, moved_to}
use Rattle.ada_tables.proofs.Once.{once_moved, length-moved_to}
use Rattle.ada_tables.proofs.layers.Layers.count_to.Goals as goal

pub invariant_of-self : goal.invariant_of-self
invariant_of-self c =
    let same = c.count.ensures ∙ ap (moved_to (changed c.args.change) c.args.block) c.as_mut_slice.ensures.value in
    let long = ap length same ∙ length-moved_to (changed c.args.change) c.args.block c.self.inside.layers.items in
    subst AreOnce (sym (take_at c.count.new.layers _ (length c.self.inside.layers.items) long ∙ same))
    (once_moved (changed c.args.change) c.args.block c.self.inside.layers.items c.self.invariant)
