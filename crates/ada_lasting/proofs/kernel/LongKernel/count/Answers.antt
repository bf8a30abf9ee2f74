use Rattle.std.proofs.Common.{◌≡◌, ◌≤◌, Some, sym, ap, ◌∙◌, subst}
use Rattle.std.specs.Option.{option_map}
use Rattle.ada_events.specs.declared.names.TaskNo.{TaskNo}
use Rattle.ada_lasting.specs.Naming.{found}
use Rattle.ada_lasting.specs.Following.{Follows}
use Rattle.ada_lasting.specs.internal.Present.{IsPresent}
use Rattle.ada_lasting.proofs.Answered.{count_here, count_of_nobody}
use Rattle.ada_lasting.proofs.kernel.LongKernel.count.Goals as goal

pub returns-in-Ok-clause-ok : goal.returns-in-Ok-clause-ok
returns-in-Ok-clause-ok c = λ journal follows.
    let here = subst (Follows journal) (sym c.self.view_is) follows in
    let is_present = subst IsPresent (sym c.self.view_is) c.known.ensures in
    let named : found c.self.inside.names.tasks c.args.by ≡ Some c.in-Some.task.0 =
    sym c.task.ensures ∙ ap (option_map (λ (t : TaskNo). t.0)) c.in-Some.is in
    sym (count_here journal _ here is_present c.args.by c.in-Some.task.0 c.args.entry named) ∙ (sym c.count.ensures ∙ c.in-Ok.is)

pub returns-in-Err-clause-err : goal.returns-in-Err-clause-err
returns-in-Err-clause-err c = λ journal follows.
    let here = subst (Follows journal) (sym c.self.view_is) follows in
    let is_present = subst IsPresent (sym c.self.view_is) c.known.ensures in
    let named : found c.self.inside.names.tasks c.args.by ≡ Some c.in-Some.task.0 =
    sym c.task.ensures ∙ ap (option_map (λ (t : TaskNo). t.0)) c.in-Some.is in
    sym (count_here journal _ here is_present c.args.by c.in-Some.task.0 c.args.entry named) ∙ (sym c.count.ensures ∙ c.in-Err.is)

pub returns-in-None-2-clause-err : goal.returns-in-None-2-clause-err
returns-in-None-2-clause-err c = λ journal follows.
    let here = subst (Follows journal) (sym c.self.view_is) follows in
    let is_present = subst IsPresent (sym c.self.view_is) c.known.ensures in
    count_of_nobody journal _ here is_present c.args.by c.args.entry (subst (λ n. n ≤ c.args.by) c.made.ensures.made c.if-by-made.false)
