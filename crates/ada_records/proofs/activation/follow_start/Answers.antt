use Rattle.std.proofs.Common.{arith}
use Rattle.ada_records.proofs.following.Listed.{start_followed}
use Rattle.ada_records.proofs.activation.follow_start.Goals as goal

pub refresh-requires : goal.refresh-requires
refresh-requires c = omega (arith, c.requires.by, c.refresh_listed.ensures.same)

pub returns : goal.returns
returns c = λ before.
    start_followed before c.args.records.now c.args.by c.args.tasks.now c.args.tables.now _ _ c.refresh_listed.ensures c.requires.by c.refresh.ensures
