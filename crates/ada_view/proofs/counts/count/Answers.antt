use Rattle.std.proofs.Common.{◌∙◌, sym}
use Rattle.std.proofs.lemmas.Bool.{ltb-true}
use Rattle.ada_records.proofs.recording.Queries.{records_tell}
use Rattle.ada_view.proofs.Counting.{unknown_asks, suspended_asks}
use Rattle.ada_view.proofs.counts.count.Goals as goal

pub returns-in_default : goal.returns-in_default
returns-in_default c = unknown_asks c.args.view.now c.args.by.0 c.args.entry c.in_default.ensures

pub returns-then-not-is_running : goal.returns-then-not-is_running
returns-then-not-is_running c =
    suspended_asks c.args.view.now c.args.by.0 c.args.entry c.in-Some.ensures.0
    (sym (records_tell c.args.view.now c.args.by.0 c.in-Some.kept c.in-Some.ensures.1).runs ∙ sym c.is_running.ensures ∙ c.if-not-is_running.true)

pub running_count-requires-clause-known : goal.running_count-requires-clause-known
running_count-requires-clause-known c = ltb-true c.args.by.0 _ c.in-Some.ensures.0

pub running_count-requires-clause-runs : goal.running_count-requires-clause-runs
running_count-requires-clause-runs c =
    sym (records_tell c.args.view.now c.args.by.0 c.in-Some.kept c.in-Some.ensures.1).runs ∙ sym c.is_running.ensures ∙ c.if-not-is_running.false
