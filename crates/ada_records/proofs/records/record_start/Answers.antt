use Rattle.std.proofs.Common.{refl, sym, ap, ◌∙◌, false}
use Rattle.std.proofs.lemmas.List.{length-set}
use Rattle.ada_records.specs.internal.Records.{held, start_record}
use Rattle.ada_records.proofs.recording.Starting.{start_twice, records_started}
use Rattle.ada_records.proofs.recording.Changing.{changed_more, still_there}
use Rattle.ada_records.proofs.recording.RecordChanges.{within_set}
use Rattle.ada_records.proofs.records.record_start.Goals as goal

pub loop-i-init : goal.loop-i-init
loop-i-init c = record { same = refl; each = λ task below. refl }

pub loop-i-preserved : goal.loop-i-preserved
loop-i-preserved c =
    changed_more start_record _ c.loop-i.records c.args.tasks.now c.loop-i.i _ c.start_one.result start_twice c.loop-i.invariant c.loop-i-test.true
    (within_set c.args.records.now c.args.by.0 _ _ (c.requires.tasks c.loop-i.i _ c.loop-i-test.true))
    c.start_one.ensures

pub bounds-records-tasks : goal.bounds-records-tasks
bounds-records-tasks c =
    still_there c.args.tasks.now c.args.records.now c.loop-i.records c.loop-i.i _ c.requires.tasks
    (c.loop-i.auto.records ∙ length-set c.args.records.now c.args.by.0 _) c.loop-i-test.true

pub returns : goal.returns
returns c = λ before at lawful old.
    records_started before c.args.records.now c.loop-i.records c.held.result c.args.by c.args.tasks.now c.loop-i.i lawful old c.requires.by
    (c.held.ensures ∙ ap (λ n. held n false) (sym at)) c.loop-i.invariant c.loop-i-test.false c.loop-i.auto.i-end
