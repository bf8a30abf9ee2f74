use Rattle.std.proofs.Common.{rules}
use Rattle.ada_page.proofs.Doings.{doings_grow}
use Rattle.ada_page.proofs.standing.doings_of.Goals as goal

pub loop-task-preserved : goal.loop-task-preserved
loop-task-preserved c =
    doings_grow c.args.kernel.now c.loop-task.doings.items c.push.new.self.items c.loop-task.task c.in_ok-doing_of.field-0 c.loop-task.invariant
    c.in_ok-doing_of.ensures (search rules)
