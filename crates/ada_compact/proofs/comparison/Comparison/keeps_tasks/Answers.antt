use Rattle.ada_compact.proofs.StandingIn.{tasks_right}
use Rattle.ada_compact.proofs.comparison.Comparison.keeps_tasks.Goals as goal

pub returns : goal.returns
returns c = λ rise.
    tasks_right c.args.self.now.old c.args.self.now.new c.args.self.now.names.now c.requires (c.is_named.ensures c.if-not-is_named.false)
    (c.are_kept_right.ensures c.if-not-are_kept_right.false) (c.are_accounted_for.ensures c.if-not-are_accounted_for.false) (c.tasks_rise.ensures rise)
