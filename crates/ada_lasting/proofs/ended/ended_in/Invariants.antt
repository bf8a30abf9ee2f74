use Rattle.std.proofs.Common.{◌≡◌, ◌<◌, ℕ, length, get_or, false}
use Rattle.ada_events.specs.Phases.{is_terminated}
use Rattle.ada_lasting.proofs.ended.ended_in.Given as goal

abbrev pub invariant-loop-task : goal.invariant-loop-task
invariant-loop-task l =
    (length l.flags ≡ 256) × ((k : ℕ) → k < l.task → get_or l.flags k false ≡ is_terminated l.view k)
