use Rattle.std.proofs.Common.{◌∙◌, refl, sym}
use Rattle.ada_events.specs.Termination.{is_complete}
use Rattle.ada_laws.proofs.within.Framing.{IsBlockOf}
use Rattle.ada_view.proofs.Blocks.{complete_told}
use Rattle.ada_view.proofs.view.View.is_complete_block.Goals as goal
use Rattle.ada_view.proofs.Orphans.{alone_or, else_or}

pub returns-then-has_ended : goal.returns-then-has_ended
unfolding is_complete
returns-then-has_ended c =
    let of = c.requires in
    let own : IsBlockOf c.args.self.now of.opening.by c.args.block =
    record { event = of.event; opening = of.opening; stands = of.stands; says = of.says; by = refl } in
    c.has_ended.ensures ∙ alone_or _ _ (sym c.has_ended.ensures ∙ c.if-has_ended.true)
    ∙ complete_told c.args.self.now of.opening.by c.args.block c.args.kept.now c.is_closed_at-closed.ensures.lawful of.right own of.within

pub returns-else-has_ended : goal.returns-else-has_ended
unfolding is_complete
returns-else-has_ended c =
    let of = c.requires in
    let own : IsBlockOf c.args.self.now of.opening.by c.args.block =
    record { event = of.event; opening = of.opening; stands = of.stands; says = of.says; by = refl } in
    c.is_closed_at-closed.ensures.closes ∙ else_or _ _ (sym c.has_ended.ensures ∙ c.if-has_ended.false)
    ∙ complete_told c.args.self.now of.opening.by c.args.block c.args.kept.now c.is_closed_at-closed.ensures.lawful of.right own of.within
