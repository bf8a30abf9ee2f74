use Rattle.ada_tables.proofs.Adding.{stand_alone}
use Rattle.ada_tables.proofs.Turns.{ended}
use Rattle.ada_tables.proofs.tasks.end.Goals as goal

pub count-requires-clause-alone : goal.count-requires-clause-alone
count-requires-clause-alone c = stand_alone c.args.tasks.now c.requires.counted

pub returns-clause-counted : goal.returns-clause-counted
returns-clause-counted c =
    (ended c.args.tasks.now c.count.new.tasks c.args.task c.index-tasks-task.result c.requires.counted c.requires.known c.requires.live c.count.ensures).0

pub returns-clause-facts : goal.returns-clause-facts
returns-clause-facts c =
    (ended c.args.tasks.now c.count.new.tasks c.args.task c.index-tasks-task.result c.requires.counted c.requires.known c.requires.live c.count.ensures).1

pub returns-clause-firsts : goal.returns-clause-firsts
returns-clause-firsts c =
    (ended c.args.tasks.now c.count.new.tasks c.args.task c.index-tasks-task.result c.requires.counted c.requires.known c.requires.live c.count.ensures).2
