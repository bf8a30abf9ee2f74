use Rattle.std.proofs.Common.{refl}
use Rattle.ada_records.specs.internal.Records.{abort_record}
use Rattle.ada_records.proofs.recording.Changing.{changed_more, still_there}
use Rattle.ada_records.proofs.recording.Sweeping.{abort_once, records_aborted}
use Rattle.ada_records.proofs.records.record_abort.Goals as goal

pub loop-i-init : goal.loop-i-init
loop-i-init c = record { same = refl; each = λ task below. refl }

pub bounds-records-hit : goal.bounds-records-hit
bounds-records-hit c =
    still_there c.args.hit.now c.args.records.now c.loop-i.records c.loop-i.i _ c.requires c.loop-i.invariant.same c.loop-i-test.true

pub loop-i-preserved : goal.loop-i-preserved
loop-i-preserved c =
    changed_more abort_record _ c.loop-i.records c.args.hit.now c.loop-i.i _ c.abort_one.result abort_once c.loop-i.invariant c.loop-i-test.true
    (c.requires c.loop-i.i _ c.loop-i-test.true) c.abort_one.ensures

pub returns : goal.returns
returns c = λ before by tasks hits lawful old.
    records_aborted before by tasks c.args.records.now c.loop-i.records c.args.hit.now c.loop-i.i lawful old hits c.loop-i.invariant c.loop-i-test.false
