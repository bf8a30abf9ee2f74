use Rattle.std.proofs.Common.{◌∙◌}
use Rattle.ada_events.specs.Waits.{front_of}
use Rattle.ada_view.proofs.Choosing.{declared_has, front_told}
use Rattle.ada_view.proofs.view.View.front_of.Goals as goal

pub front-requires : goal.front-requires
front-requires c = declared_has _ c.args.self.now c.args.task.0 c.args.choice.entry c.tables.ensures.stand (c.requires c.if-choice.true)

pub returns-then-choice : goal.returns-then-choice
unfolding front_of
returns-then-choice c =
    rw c.if-choice.true
    (c.front.ensures ∙ front_told _ c.args.self.now c.args.task.0 c.args.choice.entry c.tables.ensures.stand
    (declared_has _ c.args.self.now c.args.task.0 c.args.choice.entry c.tables.ensures.stand (c.requires c.if-choice.true)))
