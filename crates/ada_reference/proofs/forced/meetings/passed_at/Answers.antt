use Rattle.ada_events.specs.Forced.{passed_at}
use Rattle.ada_events.specs.Says.{wait_in}
use Rattle.ada_reference.proofs.forced.meetings.passed_at.Goals as goal

pub returns-in-Waiting : goal.returns-in-Waiting
unfolding passed_at wait_in
returns-in-Waiting c = rw (c.in-Waiting.is, ← c.as_slice.ensures.value) c.passed_wait.ensures
