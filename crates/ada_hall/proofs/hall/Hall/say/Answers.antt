use Rattle.std.proofs.Common.{◌≡◌, Some, ap, sym, subst, ◌∙◌, length}
use Rattle.std.specs.Option.{option_copied}
use Rattle.ada_events.specs.Tasks.{task_count}
use Rattle.ada_hall.specs.Halls.{open_line}
use Rattle.ada_hall.proofs.Keeping.{hall_says, open_within, total_fits}
use Rattle.ada_hall.proofs.hall.Hall.say.Goals as goal

pub count-requires-clause-fits : goal.count-requires-clause-fits
count-requires-clause-fits g c =
    total_fits c.self.inside.tally _ c.self.inside.published.journal c.answer_request.new.published.journal c.self.invariant.1.counted
    c.in_ok-answer.ensures.counted c.answer_request.ensures.lawful

pub keep-requires-clause-place : goal.keep-requires-clause-place
keep-requires-clause-place g c =
    let is : open_line g.J.Session.script c.self.inside.answers.kept c.args.place ≡ Some c.in-Some.line.now =
    subst (λ s. open_line s c.self.inside.answers.kept c.args.place ≡ Some c.in-Some.line.now) c.self.invariant.0
    (sym c.open_line.ensures ∙ ap option_copied c.in-Some.is) in
    open_within g.J.Session.script c.self.inside.answers.places c.self.inside.tally c.self.inside.published c.self.inside.names
    c.self.inside.answers.kept c.args.place c.in-Some.line.now c.self.invariant.1 is

pub invariant_of-self-2 : goal.invariant_of-self-2
invariant_of-self-2 g c =
    let is : open_line g.J.Session.script c.self.inside.answers.kept c.args.place ≡ Some c.in-Some.line.now =
    subst (λ s. open_line s c.self.inside.answers.kept c.args.place ≡ Some c.in-Some.line.now) c.self.invariant.0
    (sym c.open_line.ensures ∙ ap option_copied c.in-Some.is) in (
      c.self.invariant.0,
      rw c.keep.ensures (hall_says g.J.Session.script c.self.inside.answers.places c.self.inside.tally c.count.new.self c.self.inside.published
          c.answer_request.new.published c.self.inside.names c.answer_request.new.names c.self.inside.answers.kept c.args.place c.len-events.result
          c.tasks-tasks.result c.in_ok-answer.answer c.in-Some.line.now c.self.invariant.1 is
          c.kernel.ensures.lawful c.kernel.ensures.settled c.in_ok-answer.ensures.ok c.in_ok-answer.ensures.counted c.count.ensures.total
          (c.len-events.ensures ∙ ap length (c.journal.ensures.events ∙ c.kernel.ensures.journal))
          (c.tasks-tasks.ensures ∙ ap task_count c.kernel-2.ensures.journal)),
    )
