use Rattle.ada_view.proofs.Quitting.{body_held}
use Rattle.ada_view.proofs.view.View.is_left_alone.Goals as goal

pub are_all_terminated-requires : goal.are_all_terminated-requires
are_all_terminated-requires c = body_held c.args.self.now c.args.task c.requires
