use Rattle.ada_tables.specs.Dependents.{depends_on}
use Rattle.ada_tables.specs.Counts.{facts}
use Rattle.ada_tables.proofs.Alongs.{along_begins, next_leads, next_within, goes_outwards, goes_no_further}
use Rattle.ada_tables.proofs.tasks.count.Goals as goal

pub loop-tasks-init : goal.loop-tasks-init
loop-tasks-init c =
    record {
      within = c.requires.known;
      along = along_begins c.args.change c.args.tasks.now (depends_on (facts c.args.tasks.now) c.args.task);
      led =
          c.requires.led;
    }

pub bounds-tasks-number-in-Some-3 : goal.bounds-tasks-number-in-Some-3
bounds-tasks-number-in-Some-3 c =
    next_within c.args.change c.args.tasks.now c.loop-tasks.tasks (depends_on (facts c.args.tasks.now) c.args.task) c.loop-tasks.number c.loop-tasks.invariant
    c.in-Some.master _ c.index-tasks-number.result c.in-Some.is

pub loop-tasks-preserved : goal.loop-tasks-preserved
loop-tasks-preserved c =
    goes_outwards c.args.change c.args.tasks.now c.loop-tasks.tasks (depends_on (facts c.args.tasks.now) c.args.task) c.loop-tasks.number c.loop-tasks.invariant
    c.in-Some.master _ c.index-tasks-number.result c.index-tasks-number-in-Some.result c.count.new.task c.requires.alone c.in-Some.is c.count.ensures

pub loop-tasks-smaller : goal.loop-tasks-smaller
loop-tasks-smaller c =
    (next_leads c.args.change c.args.tasks.now c.loop-tasks.tasks (depends_on (facts c.args.tasks.now) c.args.task) c.loop-tasks.number c.loop-tasks.invariant
    c.in-Some.master _ c.index-tasks-number.result c.in-Some.is).low

pub returns : goal.returns
returns c =
    goes_no_further c.args.change c.args.tasks.now c.loop-tasks.tasks (depends_on (facts c.args.tasks.now) c.args.task) c.loop-tasks.number
    c.loop-tasks.invariant _ c.in_default.is
