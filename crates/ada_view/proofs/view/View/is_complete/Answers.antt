use Rattle.std.proofs.Common.{◌∙◌, ap, sym}
use Rattle.std.specs.Option.{option_and_then, option_copied}
use Rattle.ada_events.specs.Says.{opening_in}
use Rattle.ada_view.proofs.Orphans.{no_block_complete}
use Rattle.ada_view.proofs.Quitting.{body_complete}
use Rattle.ada_view.proofs.view.View.is_complete.Goals as goal

pub returns-in-Body : goal.returns-in-Body
returns-in-Body c = rw c.in-Body.is (body_complete c.args.self.now _ c.record.result.stage.completed c.record.ensures.right.stage.completed)

pub returns-in-None : goal.returns-in-None
returns-in-None c =
    rw c.in-Block.is
    (no_block_complete c.args.self.now c.in-Block.block c.event.ensures.lawful
    (ap (option_and_then opening_in) (sym c.event.ensures.event ∙ ap option_copied c.in-None.is)))
