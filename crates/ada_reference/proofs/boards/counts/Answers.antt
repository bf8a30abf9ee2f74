use Rattle.std.proofs.Common.{◌∙◌, ap, reverse, arith}
use Rattle.std.specs.Prelude.{nat_lt, if◌then◌else◌}
use Rattle.ada_events.specs.Slots.{count_at}
use Rattle.ada_events.specs.Boards.{shows_count}
use Rattle.ada_reference.proofs.Filling.{filled_more, listed_all}
use Rattle.ada_reference.proofs.boards.counts.Goals as goal

pub loop-slot-preserved : goal.loop-slot-preserved
unfolding shows_count
loop-slot-preserved c =
    filled_more (shows_count (reverse c.args.events.now)) c.loop-slot.shown c.loop-slot.slot c.from.result 1024 c.shows_count.result 0
    c.loop-slot-test.true c.from.ensures
    (c.shows_count.ensures ∙ ap (λ s. if nat_lt c.loop-slot.slot s then count_at (reverse c.args.events.now) c.loop-slot.slot else 0)
    c.entries_of-slots.ensures)
    c.loop-slot.invariant

pub returns : goal.returns
returns c =
    listed_all (shows_count (reverse c.args.events.now)) c.loop-slot.shown 1024 0 c.loop-slot.invariant.0
    (λ k below. c.loop-slot.invariant.1 k (omega arith))
