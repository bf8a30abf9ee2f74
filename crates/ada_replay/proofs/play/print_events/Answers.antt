use Rattle.std.proofs.Common.{arith, sym, ◌∙◌}
use Rattle.ada_replay.proofs.Groups.{group_begins, group_grows}
use Rattle.ada_replay.proofs.play.print_events.Goals as goal

pub loop-at-init : goal.loop-at-init
loop-at-init c = group_begins c.args.names.now c.args.text.now.items c.args.events.now c.args.from (omega (arith, c.requires.behind))

pub loop-at-preserved : goal.loop-at-preserved
loop-at-preserved c =
    group_grows c.args.names.now c.args.from c.args.text.now.items c.loop-at.text.items c.write_event.new.out.items
    c.args.events.now c.loop-at.at c.index-events-at.result c.write_event.result c.loop-at-test.true (omega arith) c.loop-at.invariant
    c.index-events-at.is (sym c.is_err.ensures.value ∙ c.if-is_err.false) c.write_event.ensures.ok
