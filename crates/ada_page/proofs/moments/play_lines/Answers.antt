use Rattle.std.proofs.Common.{◌≡◌, length, subst, sym, ap, ◌∙◌, arith, rules}
use Rattle.ada_events.specs.Boards.{first_events}
use Rattle.ada_replay.specs.Ends.{state}
use Rattle.ada_page.specs.Standing.{AreQueued}
use Rattle.ada_page.specs.Shows.{IsMoment}
use Rattle.ada_page.specs.Shows.Shows.{no_more}
use Rattle.ada_page.proofs.Following.{none_queued}
use Rattle.ada_page.proofs.Growing.{line_grows, line_begins}
use Rattle.ada_page.proofs.Showing.{shows_grow}
use Rattle.ada_page.proofs.moments.play_lines.Goals as goal

pub loop-line-init : goal.loop-line-init
loop-line-init c = (
  rw (c.new-answers.ensures.items, c.new-text.ensures.items, c.new-moments.ensures.items) no_more,
  rw (c.requires, c.new-queued.ensures.items) none_queued,
)

pub moment_of-requires-clause-known : goal.moment_of-requires-clause-known
moment_of-requires-clause-known c =
    let (said, added, says) = c.in_ok-answer.ensures.ok in
    let many : c.len-known.result ≡ length c.loop-line.kernel = search rules in
    omega (arith, many, line_grows c.line-item.result (state c.loop-line.kernel c.loop-line.names) (state c.say.new.kernel c.say.new.names) said says)

pub moment_of-requires-clause-queued : goal.moment_of-requires-clause-queued
moment_of-requires-clause-queued c =
    let (said, added, says) = c.in_ok-answer.ensures.ok in
    let many : c.len-known.result ≡ length c.loop-line.kernel = search rules in
    let old = state c.loop-line.kernel c.loop-line.names in
    let new = state c.say.new.kernel c.say.new.names in
    subst (λ journal. AreQueued journal c.deref.result.now)
    (sym (ap (λ n. first_events n c.say.new.kernel) many ∙ line_begins c.line-item.result old new said says))
    (subst (λ calls. AreQueued c.loop-line.kernel calls) (sym c.deref.ensures.value) c.loop-line.invariant.1)

pub loop-line-preserved : goal.loop-line-preserved
loop-line-preserved c =
    let (said, added, says) = c.in_ok-answer.ensures.ok in
    let many : c.len-known.result ≡ length c.loop-line.kernel = search rules in
    let old = state c.loop-line.kernel c.loop-line.names in
    let new = state c.say.new.kernel c.say.new.names in
    let is_moment : IsMoment (length c.loop-line.kernel) c.say.new.kernel c.in_ok-moment.moment =
    subst (λ n. IsMoment n c.say.new.kernel c.in_ok-moment.moment) many c.in_ok-moment.ensures.ok in
    let copied : c.in_ok-queued.queued.items ≡ c.last_queued.result.now = search rules in (
      shows_grow c.args.lines.now c.loop-line.line-index c.line-item.result (state c.args.kernel.now c.args.names.now) old new c.loop-line.answers.items
          c.push.new.self.items c.loop-line.text.items c.say.new.text.items c.loop-line.moments.items c.push-in-loop-line.new.self.items
          c.in_ok-answer.answer c.in_ok-moment.moment c.loop-line-test.true c.line-item.is c.loop-line.invariant.0 c.in_ok-answer.ensures.ok
          c.in_ok-answer.ensures.answer is_moment (search rules) (search rules),
      subst (λ calls. AreQueued c.say.new.kernel calls) (sym copied)
          (c.last_queued.ensures (length c.loop-line.kernel) c.say.new.kernel (line_grows c.line-item.result old new said says) is_moment),
    )
