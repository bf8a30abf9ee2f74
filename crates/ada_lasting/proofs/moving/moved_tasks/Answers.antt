use Rattle.std.proofs.Common.{rules, Some, None, sym, arith}
use Rattle.std.proofs.lemmas.List.{append-nil}
use Rattle.ada_standing.specs.Names.{named}
use Rattle.ada_lasting.proofs.Finding.{name_tasks-more, name_tasks-step}
use Rattle.ada_lasting.proofs.MovedNames.{moved-more, moved-all}
use Rattle.ada_lasting.proofs.moving.moved_tasks.Goals.{in-Some+in_ok-push, in_default}
use Rattle.ada_lasting.proofs.moving.moved_tasks.Goals as goal

pub loop-row-preserved : goal.loop-row-preserved
loop-row-preserved c =
    let to = named c.args.renaming.now.tasks in
    let left = name_tasks-step c.args.rows.now c.loop-row.row-index c.loop-row-test.true c.loop-row.invariant.left in
    elim c.match-task.branch [
      | in-Some+in_ok-push w ↦ record {
        rows = rw w.out-is
            (moved-more to c.args.rows.now c.loop-row.row-index c.loop-row.out.items w.push.new.self.items (Some w.in-Some.task.0) c.loop-row-test.true
            w.in-Some.ensures (rw w.from.ensures at w.in_ok-push.ensures.items) c.loop-row.invariant.rows);
        small = rw (w.out-is, w.in_ok-push.ensures.items) (name_tasks-more c.loop-row.out.items _ c.loop-row.invariant.small (search rules));
        left = left;
      }
      | in_default w ↦ record {
        rows = rw w.out-is
            (moved-more to c.args.rows.now c.loop-row.row-index c.loop-row.out.items c.loop-row.out.items None c.loop-row-test.true
            w.in_default.ensures (sym (append-nil c.loop-row.out.items)) c.loop-row.invariant.rows);
        small = rw w.out-is c.loop-row.invariant.small;
        left = left;
      }
    ]

pub returns-clause-rows : goal.returns-clause-rows
returns-clause-rows c =
    moved-all (named c.args.renaming.now.tasks) c.args.rows.now c.loop-row.row-index c.loop-row.out.items (omega arith) c.loop-row.invariant.rows
