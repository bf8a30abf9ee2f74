-- Tables that stand for a journal allow what an event after it changes in them.
use Rattle.std.proofs.Common.{◌≡◌, ◌+◌, ◌<◌, ℕ, false, List, ◌∷◌, length, sym, ap, subst, ◌∙◌, arith}
use Rattle.std.specs.Option.{option_map_or, ForSome}
use Rattle.ada_events.specs.declared.event.Event.{Event}
use Rattle.ada_events.specs.declared.event.Event.TheVariants.{Opened, Left, Met, Failed}
use Rattle.ada_events.specs.declared.limits.TheConstants.{MOST_MEMBERS}
use Rattle.ada_events.specs.declared.names.Entry.{Entry}
use Rattle.ada_events.specs.declared.names.Master.{Master}
use Rattle.ada_events.specs.declared.names.Member.{Member}
use Rattle.ada_events.specs.declared.names.Member.TheVariants.{Block, Rendezvous}
use Rattle.ada_events.specs.declared.names.TaskNo.{TaskNo}
use Rattle.ada_events.specs.Lawful.{IsLawful}
use Rattle.ada_events.specs.Nests.{innermost}
use Rattle.ada_events.specs.Says.{Call, call_at}
use Rattle.ada_events.specs.Tasks.{task_count}
use Rattle.ada_laws.specs.Suspension.{IsSuspendedAt}
use Rattle.ada_events.specs.Holders.{has_block}
use Rattle.ada_tables.specs.Dependents.{Facts, task_at, IsFresh, IsIdle}
use Rattle.ada_tables.specs.Queues.{waits}
use Rattle.ada_tables.specs.Standing.{StandFor}
use Rattle.ada_tables.specs.Tables.{TableState, HasEntry}
use Rattle.ada_records.specs.Facing.{HoldFacts}
use Rattle.ada_records.specs.TableEvents.{HaveAllQueues, MakesCall}
use Rattle.ada_records.proofs.turning.MasterTurns.{opening_known, leaving_known}
use Rattle.ada_records.proofs.turning.EndingTurns.{failure_known}
use Rattle.ada_records.proofs.following.Renested.{idle_left}
use Rattle.ada_records.proofs.turning.Renesting.{CanEnter}
use Rattle.ada_records.proofs.turning.RendezvousTurns.{call_known, meeting_known}
use Rattle.ada_records.proofs.following.Requeued.{called_entry, idle_caller}

module _ (tables : TableState) (before : List Event) (stand : StandFor tables before) where
  hold : HoldFacts tables.tasks before
  hold = record { many = stand.many; facts = stand.tasks }

  fresh : (task : ℕ) (member : Member) → CanEnter before task member → IsFresh member tables.tasks
  fresh task (Block block) can = λ t below.
      ap (λ (f : Facts). has_block block f.nest) (stand.tasks t (omega (arith, below, stand.many))) ∙ can.new t
  fresh task (Rendezvous call) can = tt

  shallow : (task : ℕ) (member : Member) → task < task_count before → CanEnter before task member → length (task_at tables.tasks task).nest < MOST_MEMBERS
  shallow task member known can = subst (λ (f : Facts). length f.nest < MOST_MEMBERS) (sym (stand.tasks task known)) can.shallow

  -- a block that a task opens comes into its nest
  pub opens_block : (event : Event) (by : TaskNo) (under : Master) (block : ℕ) → event ≡ Opened by under → length before + 1 ≡ block
      → IsLawful (event ∷ before)
      → (by.0 < length tables.tasks) × (length (task_at tables.tasks by.0).nest < MOST_MEMBERS) × IsFresh (Block block) tables.tasks
  opens_block event by under block is at lawful =
      let enters = (opening_known event before by under block is (omega (arith, at)) lawful).nests in
      let known = enters.1.known in
      (omega (arith, known, stand.many), shallow by.0 (Block block) known enters.0, fresh by.0 (Block block) enters.0)

  -- a block that is left is the innermost member, and has no live dependents
  pub leaves_block : (event : Event) (task : TaskNo) (close : ℕ) → event ≡ Left close → IsSuspendedAt before task.0 close → IsLawful (event ∷ before)
      → (0 < length (task_at tables.tasks task.0).nest) × ForSome (innermost (task_at tables.tasks task.0).nest) (IsIdle tables.tasks)
  leaves_block event task close is held lawful =
      let leaves = (leaving_known event before close task is held lawful).nests in (
        subst (λ (f : Facts). 0 < length f.nest) (sym (stand.tasks task.0 leaves.1.known)) leaves.0.inside,
        λ x inner. idle_left tables.tasks before task.0 x lawful.0 hold leaves.1.known leaves.0 inner,
      )

  -- the acceptor comes into the rendezvous
  pub enters_rendezvous : (event : Event) (call wait : ℕ) (caller acceptor : TaskNo) → event ≡ Met call wait → IsSuspendedAt before caller.0 call
      → IsSuspendedAt before acceptor.0 wait → IsLawful (event ∷ before) → length (task_at tables.tasks acceptor.0).nest < MOST_MEMBERS
  enters_rendezvous event call wait caller acceptor is calls waits lawful =
      let enters = (meeting_known event before call wait caller acceptor is calls waits lawful).nests in
      shallow acceptor.0 (Rendezvous call) enters.1.known enters.0

  -- a call that fails calls a task
  pub fails_callee : (event : Event) (call : ℕ) (caller callee : TaskNo) → event ≡ Failed call → IsSuspendedAt before caller.0 call
      → callee.0 ≡ option_map_or (λ (c : Call). c.callee) (call_at before call) 0 → IsLawful (event ∷ before) → callee.0 < length tables.tasks
  fails_callee event call caller callee is held called lawful =
      let known = (failure_known event before call caller callee is held called lawful).nests.known in
      omega (arith, known, stand.many)

  -- a task that calls waits at no entry, and calls one that there is
  pub joins_queue : (event : Event) (by callee : TaskNo) (entry : Entry) → MakesCall event by callee entry → IsLawful (event ∷ before)
      → HaveAllQueues tables before → HasEntry tables.tasks callee.0 entry × (waits by.0 tables.queues ≡ false)
  joins_queue event by callee entry calls lawful slots =
      let last = (call_known event before by callee entry calls lawful).queues in
      (called_entry tables.tasks before callee.0 entry hold last.called last.declares, idle_caller tables before by.0 hold stand.queues slots last.free)
