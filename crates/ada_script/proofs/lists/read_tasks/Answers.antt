use Rattle.std.proofs.Common.{sym, ◌∙◌, inr, ◌-◌, length, length-append, [], ◌∷◌, arith}
use Rattle.std.proofs.lemmas.Bool.{eqb-true}
use Rattle.std.proofs.lemmas.Result.{err_from_is_err_and}
use Rattle.ada_script.specs.internal.Reading.{task_name_at}
use Rattle.ada_script.proofs.Repeat.{repeat_step, repeat_fails, repeat_full, repeat_over, room_left}
use Rattle.ada_script.proofs.lists.read_tasks.Goals as goal

pub returns-then-is_full : goal.returns-then-is_full
returns-then-is_full c =
    inr (sym c.loop-tasks.invariant.reads ∙ repeat_full (λ before rest. task_name_at c.args.names.now rest) 256 c.loop-tasks.tasks c.loop-tasks.words
    (sym c.is_over.ensures ∙ c.loop-tasks-test.true) (eqb-true _ _ (sym c.is_full.ensures.value ∙ c.if-is_full.true)))

pub returns-in_err-task : goal.returns-in_err-task
returns-in_err-task c =
    let p = err_from_is_err_and c.from_residual.result c.from_residual.ensures.1 in
    let room = room_left _ 256 c.loop-tasks.invariant.fits (sym c.is_full.ensures.value ∙ c.if-is_full.false) in
    rw (p.1, p.2) (inr (sym c.loop-tasks.invariant.reads
    ∙ repeat_fails (λ before rest. task_name_at c.args.names.now rest) 256 c.loop-tasks.tasks c.loop-tasks.words c.in_err-task.field-0.0
    (sym c.is_over.ensures ∙ c.loop-tasks-test.true) room c.in_err-task.ensures))

pub loop-tasks-preserved : goal.loop-tasks-preserved
loop-tasks-preserved c =
    let room = room_left _ 256 c.loop-tasks.invariant.fits (sym c.is_full.ensures.value ∙ c.if-is_full.false) in
    rw (c.in_ok-push.ensures.ok, c.copy.ensures) record {
      fits = omega (arith, length-append c.loop-tasks.tasks (c.in_ok-task.task.now ∷ []));
      reads = sym (repeat_step (λ before rest. task_name_at c.args.names.now rest) 256 c.loop-tasks.tasks c.loop-tasks.words c.in_ok-task.task.now
          c.read_declared_task.new.words (sym c.is_over.ensures ∙ c.loop-tasks-test.true) room c.in_ok-task.ensures) ∙ c.loop-tasks.invariant.reads;
    }

pub returns : goal.returns
returns c =
    sym c.loop-tasks.invariant.reads ∙ repeat_over (λ before rest. task_name_at c.args.names.now rest) (256 - length c.loop-tasks.tasks) c.loop-tasks.tasks
    c.loop-tasks.words (sym c.is_over.ensures ∙ c.loop-tasks-test.false)
