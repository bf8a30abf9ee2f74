use Rattle.std.proofs.Common.{sym, ◌∙◌}
use Rattle.ada_tables.proofs.Ways.{way_leads, way_within, way_held, way_arrives, way_goes_on, way_ends}
use Rattle.ada_tables.proofs.tasks.depends_on.Goals as goal

pub bounds-tasks-number-in-Some-3 : goal.bounds-tasks-number-in-Some-3
bounds-tasks-number-in-Some-3 c =
    way_within c.args.tasks.now c.loop-number.number c.args.master c.loop-number.invariant.within c.loop-number.invariant.led c.in-Some.from _
    c.index-tasks-number.result c.in-Some.is

pub encloses-requires : goal.encloses-requires
encloses-requires c =
    way_held c.args.tasks.now c.loop-number.number c.args.master c.loop-number.invariant.within c.loop-number.invariant.led c.in-Some.from _
    c.index-tasks-number.result c.in-Some.is c.index-tasks-number-in-Some.result

pub returns-then-encloses : goal.returns-then-encloses
returns-then-encloses c =
    way_arrives c.args.tasks.now c.loop-number.number c.args.master c.loop-number.invariant.within c.loop-number.invariant.led c.in-Some.from _
    c.index-tasks-number.result c.in-Some.is c.index-tasks-number-in-Some.result (sym c.encloses.ensures ∙ c.if-encloses.true)
    ∙ sym c.loop-number.invariant.same

pub loop-number-preserved : goal.loop-number-preserved
loop-number-preserved c =
    record {
      same = c.loop-number.invariant.same
          ∙ way_goes_on c.args.tasks.now c.loop-number.number c.args.master c.loop-number.invariant.within c.loop-number.invariant.led c.in-Some.from _
          c.index-tasks-number.result c.in-Some.is c.index-tasks-number-in-Some.result (sym c.encloses.ensures ∙ c.if-encloses.false);
      within = way_within c.args.tasks.now c.loop-number.number c.args.master c.loop-number.invariant.within c.loop-number.invariant.led c.in-Some.from _
          c.index-tasks-number.result c.in-Some.is;
      led = (way_leads c.args.tasks.now c.loop-number.number c.args.master c.loop-number.invariant.within c.loop-number.invariant.led c.in-Some.from _
          c.index-tasks-number.result c.in-Some.is).on;
    }

pub loop-number-smaller : goal.loop-number-smaller
loop-number-smaller c =
    (way_leads c.args.tasks.now c.loop-number.number c.args.master c.loop-number.invariant.within c.loop-number.invariant.led c.in-Some.from _
    c.index-tasks-number.result c.in-Some.is).low

pub returns : goal.returns
returns c =
    way_ends c.args.tasks.now c.loop-number.number c.args.master c.loop-number.invariant.within c.loop-number.invariant.led _ c.in_default.is
    ∙ sym c.loop-number.invariant.same
