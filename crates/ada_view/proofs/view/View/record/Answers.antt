use Rattle.std.proofs.Common.{◌≤◌, sym, subst}
use Rattle.std.proofs.lemmas.Bool.{ltb-false}
use Rattle.ada_records.specs.Records.{IsRecordOf}
use Rattle.ada_records.proofs.recording.Unmade.{unmade}
use Rattle.ada_view.proofs.view.View.record.Goals as goal

pub returns-in-None-clause-right : goal.returns-in-None-clause-right
returns-in-None-clause-right c =
    let kept = c.self.invariant in
    let beyond = ltb-false c.args.task.0 _ (sym c.in-None.ensures.lookup.0) in
    rw c.of_new_task.ensures (subst (λ journal. IsRecordOf journal c.args.task.0 _) c.self.view_is
    (unmade c.self.inside.journal.now.events c.args.task.0 kept.lawful (subst (λ n. n ≤ c.args.task.0) kept.recorded.many beyond)))
