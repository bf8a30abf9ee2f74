use Rattle.std.proofs.Common.{arith, rules, sym, ap, ◌∙◌, refl, length}
use Rattle.ada_replay.specs.Ends.{state}
use Rattle.ada_events.specs.Tasks.{task_count}
use Rattle.ada_hall.specs.Counting.{asked_count}
use Rattle.ada_hall.proofs.Counts.{accepted_counts}
use Rattle.ada_hall.proofs.Telling.{answers_group, answers_refusal}
use Rattle.ada_hall.proofs.saying.answer_request.Goals as goal

pub returns-in-Ok-clause-ok : goal.returns-in-Ok-clause-ok
returns-in-Ok-clause-ok g c =
    answers_group c.args.line.now c.request_of-request.result (state c.args.published.now.journal c.args.names.now)
    (state c.step.new.self.journal c.bind.new.self)
    c.in-Ok.told.at c.len-last.result c.next_task-made.result (sym c.request_of-request.ensures) c.in-Ok.ensures.ok
    (c.next_task-made.ensures ∙ ap task_count c.kernel.ensures.journal) c.bind.ensures
    (c.len-last.ensures ∙ ap length (c.journal.ensures.events ∙ c.kernel-in-Ok.ensures.journal))

pub returns-in-Ok-clause-counted : goal.returns-in-Ok-clause-counted
returns-in-Ok-clause-counted g c = accepted_counts c.args.published.now.journal c.request_of-request.result c.step.new.self.journal c.in-Ok.ensures.ok.after

pub returns-in-Err : goal.returns-in-Err
returns-in-Err g c = record {
  ok = answers_refusal c.args.line.now c.request_of-request.result (state c.args.published.now.journal c.args.names.now)
      (state c.step.new.self.journal c.args.names.now)
      c.in-Err.cause (sym c.request_of-request.ensures) c.in-Err.ensures.err (search rules) refl;
  showing = c.in-Err.ensures.unchanged;
  counted = omega (arith, ap (λ s. asked_count s.journal) c.in-Err.ensures.unchanged);
  err = tt;
  lawful = c.step.ensures.lawful;
  unchanged = tt;
}
