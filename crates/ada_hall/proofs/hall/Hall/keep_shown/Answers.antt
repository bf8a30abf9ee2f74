use Rattle.std.proofs.Common.{◌≡◌, Some, ap, sym, subst, ◌∙◌, length}
use Rattle.std.specs.Option.{option_copied}
use Rattle.ada_events.specs.Tasks.{task_count}
use Rattle.ada_hall.specs.Halls.{open_line}
use Rattle.ada_hall.proofs.Keeping.{hall_notes}
use Rattle.ada_hall.proofs.hall.Hall.keep_shown.Goals as goal

pub invariant_of-self : goal.invariant_of-self
invariant_of-self g c =
    let is : open_line g.J.Session.script c.self.inside.answers.kept c.args.place ≡ Some c.in-Some.line.now =
    subst (λ s. open_line s c.self.inside.answers.kept c.args.place ≡ Some c.in-Some.line.now) c.self.invariant.0
    (sym c.open_line.ensures ∙ ap option_copied c.in-Some.is) in (
      c.self.invariant.0,
      rw c.keep.ensures (hall_notes g.J.Session.script c.self.inside.answers.places c.self.inside.tally c.self.inside.published c.self.inside.names
          c.self.inside.answers.kept c.args.place c.len-events.result c.tasks-tasks.result c.args.answer c.in-Some.line.now c.self.invariant.1 is
          (sym c.is_show.ensures ∙ c.if-is_show.true) c.requires
          c.kernel.ensures.lawful c.kernel.ensures.settled (c.len-events.ensures ∙ ap length (c.journal.ensures.events ∙ c.kernel.ensures.journal))
          (c.tasks-tasks.ensures ∙ ap task_count c.kernel-then-is_show.ensures.journal)),
    )
