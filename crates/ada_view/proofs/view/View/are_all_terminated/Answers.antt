use Rattle.std.proofs.Common.{◌∙◌, ap, nat_eq}
use Rattle.ada_view.proofs.Leaving.{held_stands, none_live}
use Rattle.ada_view.proofs.view.View.are_all_terminated.Goals as goal

pub live_dependents-requires : goal.live_dependents-requires
live_dependents-requires c = held_stands _ c.args.self.now c.args.master c.tables.ensures.stand c.requires

pub returns : goal.returns
returns c = ap (λ n. nat_eq n 0) c.live_dependents.ensures.value ∙ none_live _ c.args.self.now c.args.master c.tables.ensures.stand c.requires
