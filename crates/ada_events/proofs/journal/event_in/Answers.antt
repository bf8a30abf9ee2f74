use Rattle.ada_events.proofs.Positions.{event_at-from_slice, event_at-none}
use Rattle.ada_events.proofs.journal.event_in.Goals as goal

pub returns-then-at-eq0 : goal.returns-then-at-eq0
returns-then-at-eq0 c = event_at-none c.args.events.now c.args.at c.if-at-eq0.true

pub returns : goal.returns
returns c =
    event_at-from_slice c.args.events.now c.args.at c.get.result c.if-at-eq0.false
    c.get.ensures.lookup.0 c.get.ensures.lookup.1
