use Rattle.ada_records.proofs.following.Listed.{quit_followed}
use Rattle.ada_records.proofs.masters.follow_quitting.Goals as goal

pub returns : goal.returns
returns c = λ before master lists.
    quit_followed before master c.args.records.now c.args.dependents.now c.args.tables.now _ lists c.refresh_listed.ensures
