use Rattle.std.proofs.Common.{◌≡◌, true, Some, length, sym, ap, ◌∙◌, subst, arith}
use Rattle.std.specs.Option.{option_map}
use Rattle.ada_events.specs.declared.names.TaskNo.{TaskNo}
use Rattle.ada_events.specs.Tasks.{has_task}
use Rattle.ada_events.specs.Phases.{is_terminated}
use Rattle.ada_lasting.specs.Naming.{found}
use Rattle.ada_lasting.specs.Following.{Long, Follows}
use Rattle.ada_lasting.proofs.Newest.{none_newest}
use Rattle.ada_lasting.proofs.Shortened.{released, dead_told}
use Rattle.ada_lasting.proofs.WithoutTask.{found-without-same, found-without-other}
use Rattle.ada_lasting.proofs.Ends.{no_events_known}
use Rattle.ada_lasting.proofs.kernel.LongKernel.release.Goals as goal

pub returns-in-Some-clause-follows : goal.returns-in-Some-clause-follows
returns-in-Some-clause-follows c = λ journal follows.
    let here = subst (Follows journal) (sym c.self.view_is) follows in
    let named : found c.self.inside.names.tasks c.args.task ≡ Some c.in-Some.present.0 =
    sym c.task.ensures ∙ ap (option_map (λ (t : TaskNo). t.0)) c.in-Some.is in
    let dead : is_terminated c.self.inside.kernel c.in-Some.present.0 ≡ true =
    dead_told (has_task c.self.inside.kernel c.in-Some.present.0) (is_terminated c.self.inside.kernel c.in-Some.present.0) c.terminated.result
    c.terminated.ensures c.if-eq.ensures in
    rw c.forget.ensures (released journal _ c.args.task c.in-Some.present.0 _ here named dead c.if-task-eq0.false
    (none_newest _ _ (c.len-self-inside.ensures ∙ ap length c.journal.ensures.events)))

pub invariant_of-self : goal.invariant_of-self
invariant_of-self c =
    let named : found c.self.inside.names.tasks c.args.task ≡ Some c.in-Some.present.0 =
    sym c.task.ensures ∙ ap (option_map (λ (t : TaskNo). t.0)) c.in-Some.is in
    let dead : is_terminated c.self.inside.kernel c.in-Some.present.0 ≡ true =
    dead_told (has_task c.self.inside.kernel c.in-Some.present.0) (is_terminated c.self.inside.kernel c.in-Some.present.0) c.terminated.result
    c.terminated.ensures c.if-eq.ensures in
    let (journal, follows) = c.self.invariant.3 in (
      rw c.forget.ensures c.self.invariant.0,
      omega (arith, c.len-self-inside.ensures, ap length c.journal.ensures.events),
      no_events_known c.self.inside.ended _ _ (none_newest _ _ (c.len-self-inside.ensures ∙ ap length c.journal.ensures.events)),
      (
        journal,
        rw c.forget.ensures (released journal _ c.args.task c.in-Some.present.0 _ follows named dead c.if-task-eq0.false
            (none_newest _ _ (c.len-self-inside.ensures ∙ ap length c.journal.ensures.events))),
      ),
    )

pub returns-in-Some-clause-ok : goal.returns-in-Some-clause-ok
returns-in-Some-clause-ok c = rw c.forget.ensures (found-without-same c.self.inside.names.tasks c.args.task)

pub returns-in-Some-clause-others : goal.returns-in-Some-clause-others
returns-in-Some-clause-others c = λ other differs.
    subst (λ (k : Long). found c.forget.new.self.tasks other ≡ found k.names.tasks other) c.self.view_is
    (rw c.forget.ensures (found-without-other c.self.inside.names.tasks c.args.task other differs))
