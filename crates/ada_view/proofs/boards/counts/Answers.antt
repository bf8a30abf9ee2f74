use Rattle.std.proofs.Common.{arith}
use Rattle.std.proofs.lemmas.List.FromFn.{fill_by_all}
use Rattle.ada_events.specs.Boards.{listed, shows_count}
use Rattle.ada_view.proofs.boards.counts.Goals as goal

pub returns : goal.returns
unfolding listed
returns c =
    fill_by_all (shows_count c.args.view.now) c.loop-slot.shown 1024 0 c.loop-slot.invariant.0
    (λ k below. c.loop-slot.invariant.1 k (omega arith))
