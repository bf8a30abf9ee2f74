use Rattle.std.proofs.Common.{refl}
use Rattle.ada_records.specs.internal.Records.{quit_live_record}
use Rattle.ada_records.proofs.recording.Changing.{changed_more, still_there}
use Rattle.ada_records.proofs.recording.Sweeping.{quit_once, records_quit}
use Rattle.ada_records.proofs.records.record_quit.Goals as goal

pub loop-i-init : goal.loop-i-init
loop-i-init c = record { same = refl; each = λ task below. refl }

pub bounds-records-dependents : goal.bounds-records-dependents
bounds-records-dependents c =
    still_there c.args.dependents.now c.args.records.now c.loop-i.records c.loop-i.i _ c.requires c.loop-i.invariant.same c.loop-i-test.true

pub loop-i-preserved : goal.loop-i-preserved
loop-i-preserved c =
    changed_more quit_live_record _ c.loop-i.records c.args.dependents.now c.loop-i.i _ c.quit_one.result quit_once c.loop-i.invariant c.loop-i-test.true
    (c.requires c.loop-i.i _ c.loop-i-test.true) c.quit_one.ensures

pub returns : goal.returns
returns c = λ before master depend lawful old.
    records_quit before master c.args.records.now c.loop-i.records c.args.dependents.now c.loop-i.i lawful old depend c.loop-i.invariant c.loop-i-test.false
