use Rattle.std.proofs.Common.{◌∙◌, ap}
use Rattle.std.specs.Option.{option_and_then}
use Rattle.ada_events.specs.Says.{held_in}
use Rattle.ada_view.proofs.view.View.is_to_fail.Goals as goal

pub is_pending-pending-requires : goal.is_pending-pending-requires
unfolding held_in
is_pending-pending-requires c = ap (option_and_then held_in) c.requires ∙ ap held_in c.in-Called.is
