-- What the opening and the leaving of a block change in queues and nests, and whose phase.
use Rattle.std.proofs.Common.{◌≡◌, ℕ, suc, Some, None, List, ◌∷◌, length, refl, ap}
use Rattle.ada_events.specs.declared.event.Event.{Event}
use Rattle.ada_events.specs.declared.event.Event.TheVariants.{Opened, Left}
use Rattle.ada_events.specs.declared.names.Master.{Master}
use Rattle.ada_events.specs.declared.names.Member.TheVariants.{Block}
use Rattle.ada_events.specs.declared.names.TaskNo.{TaskNo}
use Rattle.ada_events.specs.Lawful.{IsLawful}
use Rattle.ada_events.specs.Says.{creation_in, call_in, meeting_in, released_in, completed_in, held_in, started_in, gone_in, quit_in}
use Rattle.ada_laws.specs.Suspension.{IsSuspendedAt}
use Rattle.ada_records.proofs.turning.Renesting.NestChange.{Enters, LeavesBlock}
use Rattle.ada_records.proofs.turning.Requeuing.QueueChange.{Nothing}
use Rattle.ada_records.proofs.following.Known.{AreKnown}
use Rattle.ada_records.proofs.turning.NestTurns.{nests_opened, nests_left}
use Rattle.ada_records.proofs.turning.QueueTurns.{queues_kept, queues_left}
use Rattle.ada_records.proofs.phase_changes.TouchedTasks.{nobody_touched, released_touches}

-- a block that is opened comes into its task's nest
pub opening_known : (event : Event) (before : List Event) (by : TaskNo) (under : Master) (block : ℕ) → event ≡ Opened by under
    → block ≡ suc (length before) → IsLawful (event ∷ before) → AreKnown event before Nothing (Enters by (Block block)) None
unfolding creation_in call_in meeting_in released_in completed_in held_in started_in gone_in quit_in
opening_known event before by under block is own lawful = record {
  makes = ap creation_in is;
  queues = queues_kept event _ before is refl refl refl refl lawful;
  nests = nests_opened event before by under block is own lawful;
  touches = nobody_touched event _ before is refl refl refl refl refl refl lawful;
}

-- a block that is left goes out of its task's nest, and lets the task go on
pub leaving_known : (event : Event) (before : List Event) (close : ℕ) (task : TaskNo) → event ≡ Left close
    → IsSuspendedAt before task.0 close → IsLawful (event ∷ before) → AreKnown event before Nothing (LeavesBlock task) (Some task)
unfolding creation_in call_in released_in
leaving_known event before close task is held lawful = record {
  makes = ap creation_in is;
  queues = queues_left event before close is lawful;
  nests = nests_left event before task close is held lawful;
  touches = released_touches event _ before task close is refl lawful held;
}
