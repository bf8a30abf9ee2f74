use Rattle.std.proofs.Common.{◌≡◌, length, arith, subst}
use Rattle.ada_events.specs.declared.names.TaskNo.{TaskNo}
use Rattle.ada_records.specs.internal.Phasing.{AreRefreshed}
use Rattle.ada_records.proofs.following.Listed.{none_refreshed, one_more_refreshed}
use Rattle.ada_records.proofs.phasing.refresh_listed.Goals as goal

pub loop-i-init : goal.loop-i-init
loop-i-init c = none_refreshed c.args.records.now c.args.tasks.now c.args.tables.now

pub bounds-records-tasks : goal.bounds-records-tasks
bounds-records-tasks c =
    let main : TaskNo = record { 0 = 0 } in
    c.requires.recorded c.loop-i.i main c.loop-i-test.true

pub refresh-requires : goal.refresh-requires
refresh-requires c =
    let main : TaskNo = record { 0 = 0 } in
    omega (arith, c.requires.tabled c.loop-i.i main c.loop-i-test.true, c.loop-i.invariant.same)

pub loop-i-preserved : goal.loop-i-preserved
loop-i-preserved c =
    let main : TaskNo = record { 0 = 0 } in
    one_more_refreshed c.args.records.now c.args.tasks.now c.args.tables.now c.loop-i.tables c.refresh.new.tables c.loop-i.i _ c.loop-i.invariant
    c.loop-i-test.true
    (c.requires.tabled c.loop-i.i main c.loop-i-test.true) c.refresh.ensures

pub returns : goal.returns
returns c =
    let all : c.loop-i.i ≡ length c.args.tasks.now = omega (arith, c.loop-i-test.false, c.loop-i.auto.i-end) in
    subst (λ many. AreRefreshed c.args.records.now c.args.tasks.now c.args.tables.now c.loop-i.tables many) all c.loop-i.invariant
