use Rattle.ada_standing.specs.Names.{renaming_of}
use Rattle.ada_compact.proofs.Placed.{keeps_positions}
use Rattle.ada_compact.proofs.StandingIn.{standing_in}
use Rattle.ada_compact.proofs.comparison.Comparison.stands_in.Goals as goal

pub returns : goal.returns
returns c = λ right.
    let tasks = c.keeps_tasks.ensures right in
    standing_in c.args.self.now.old c.args.self.now.new (renaming_of c.args.self.now.names.now)
    (c.is_same_moment.ensures c.if-not-is_same_moment.false)
    (keeps_positions c.args.self.now.old c.args.self.now.new c.args.self.now.names.now (c.are_places_right.ensures c.if-not-are_places_right.false) tasks)
    tasks
