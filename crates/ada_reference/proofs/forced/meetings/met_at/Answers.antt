use Rattle.ada_events.specs.Says.{wait_in}
use Rattle.ada_events.specs.Waits.{taken_choice, taken_call}
use Rattle.ada_events.specs.Forced.{met_at}
use Rattle.ada_reference.proofs.forced.meetings.met_at.Goals as goal

pub returns-in-Waiting : goal.returns-in-Waiting
unfolding met_at taken_call taken_choice wait_in
returns-in-Waiting c = rw (c.in-Waiting.is, ← c.as_slice.ensures.value) c.met_wait.ensures
