use Rattle.std.proofs.Common.{◌∙◌, ap, sym, Some}
use Rattle.std.specs.Option.{option_and_then}
use Rattle.ada_events.specs.Says.{held_in}
use Rattle.ada_view.proofs.Leaving.{closed_held}
use Rattle.ada_view.proofs.view.View.is_to_leave.Goals as goal

pub is_pending-requires : goal.is_pending-requires
unfolding held_in
is_pending-requires c = ap (option_and_then held_in) c.requires ∙ ap held_in c.in-Closed.is

pub are_all_terminated-requires : goal.are_all_terminated-requires
are_all_terminated-requires c =
    closed_held c.args.self.now c.args.at c.in-Closed.by c.in-Closed.block c.is_pending.ensures.lawful (c.requires ∙ ap Some c.in-Closed.is)
    (sym c.is_pending.ensures.pending ∙ c.if-is_pending.true)
