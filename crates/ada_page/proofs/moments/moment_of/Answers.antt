use Rattle.std.proofs.Common.{◌≡◌, length, reverse, ap, sym, subst, ◌∙◌, arith, rules}
use Rattle.std.proofs.lemmas.List.{length-reverse}
use Rattle.ada_events.specs.Boards.{first_events}
use Rattle.ada_page.specs.Standing.{AreQueued, AreQueuedSince}
use Rattle.ada_page.proofs.Growing.{first_taken}
use Rattle.ada_page.proofs.moments.moment_of.Goals as goal

pub queued_since-requires-clause-queued : goal.queued_since-requires-clause-queued
queued_since-requires-clause-queued c =
    let events = c.as_slice-events.result.now in
    let whole : c.args.kernel.now ≡ reverse events = search rules in
    subst (λ journal. AreQueued journal c.args.queued.now)
    (ap (first_events c.args.known) whole
    ∙ first_taken events c.args.known (omega (arith, c.requires.known, ap length whole, length-reverse events)))
    c.requires.queued

pub returns-clause-ok : goal.returns-clause-ok
returns-clause-ok c =
    let events = c.as_slice-events.result.now in
    let whole : c.args.kernel.now ≡ reverse events = search rules in
    let since : AreQueuedSince c.args.known (reverse events) c.in_ok-queued.queued.items = search rules in
    record {
      standing = c.in_ok-standing.ensures.ok;
      queued = subst (λ journal. AreQueuedSince c.args.known journal c.in_ok-queued.queued.items) (sym whole) since;
    }
