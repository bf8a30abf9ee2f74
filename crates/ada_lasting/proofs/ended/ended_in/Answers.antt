use Rattle.std.proofs.Common.{arith, false}
use Rattle.std.proofs.lemmas.List.FromFn.{fill_by_all}
use Rattle.ada_events.specs.Boards.{listed}
use Rattle.ada_events.specs.Phases.{is_terminated}
use Rattle.ada_lasting.proofs.ended.ended_in.Goals as goal

pub returns : goal.returns
unfolding listed
returns c =
    fill_by_all (is_terminated c.args.view.now) c.loop-task.flags 256 false c.loop-task.invariant.0
    (λ k below. c.loop-task.invariant.1 k (omega arith))
