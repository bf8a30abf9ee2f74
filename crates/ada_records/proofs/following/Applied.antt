-- Tables to which was applied what an event is known to change stand for the journal with it.
use Rattle.std.proofs.Common.{◌≡◌, ◌+◌, ◌<◌, ◌-◌, ℕ, suc, ℤ, not, false, Option, Some, None, List, [], ◌∷◌, ◌++◌}
use Rattle.std.proofs.Common.{length, take, sym, refl, ap, ◌∙◌, subst, arith}
use Rattle.std.proofs.lemmas.List.{length-map, length-set}
use Rattle.std.specs.List.{filter}
use Rattle.ada_events.specs.declared.event.Event.{Event}
use Rattle.ada_events.specs.declared.event.Event.TheVariants.{Aborted, Ticked}
use Rattle.ada_events.specs.declared.names.Entry.{Entry}
use Rattle.ada_events.specs.declared.names.TaskNo.{TaskNo}
use Rattle.ada_events.specs.Lawful.{IsLawful}
use Rattle.ada_events.specs.Says.{creation_in}
use Rattle.ada_tables.specs.Dependents.{task_at, cut, with_nest}
use Rattle.ada_tables.specs.Queues.{is_by, with_last, without}
use Rattle.ada_tables.specs.Tables.{TableState, slot_at}
use Rattle.ada_records.proofs.turning.Renesting.{NestChange}
use Rattle.ada_records.proofs.turning.Renesting.NestChange.{Nothing as SameNests, Enters, LeavesBlock, EndsRendezvous}
use Rattle.ada_records.proofs.turning.Requeuing.{QueueChange}
use Rattle.ada_records.proofs.turning.Requeuing.QueueChange.{Nothing as SameQueues, Joins, Leaves}
use Rattle.ada_records.specs.declared.record.Record.{Record}
use Rattle.ada_records.specs.Facing.{HoldFacts, HoldQueues}
use Rattle.ada_records.specs.Followed.{HaveFollowedAfter, StandAfter}
use Rattle.ada_records.specs.TableEvents.{HaveAllQueues}
use Rattle.ada_records.specs.Records.{IsRecordOf, record_at}
use Rattle.ada_records.proofs.following.Known.{AreKnown}
use Rattle.ada_records.specs.internal.Phasing.{TouchesOnly, AreRenested, refreshed}
use Rattle.ada_records.proofs.turning.Renesting.{ChangesNests}
use Rattle.ada_records.proofs.turning.Requeuing.{ChangesQueues}
use Rattle.ada_records.proofs.turning.EndingTurns.{abort_known}
use Rattle.ada_records.proofs.following.Followed.{followed, slots_followed}
use Rattle.ada_records.proofs.following.Refreshing.{all_done, one_refreshed, refreshed_kept}
use Rattle.ada_records.proofs.following.Renested.{nests_same, nest_becomes}
use Rattle.ada_records.proofs.following.Requeued.{queues_left_by, queues_same, queues_joined}
use Rattle.ada_records.proofs.turning.SuspensionTurns.{tick_known}

-- a queue was changed so by the event that comes next in that journal
abbrev pub HaveRequeued : List Event → QueueChange → TableState → TableState → Type 0
HaveRequeued before SameQueues old new = new ≡ old
HaveRequeued before (Joins by callee entry) old new = new ≡ record old {
  queues = with_last (slot_at old.tasks callee.0 entry) (record { call = suc (length before); caller = by.0 }) old.queues;
  spare = old.spare - 1;
}
HaveRequeued before (Leaves task) old new = new ≡ record old { queues = without task.0 old.queues; spare = new.spare }

-- a call came last at that position, which is the next
pub joined : (old new : TableState) (before : List Event) (by callee : TaskNo) (entry : Entry) (at : ℕ) → length before + 1 ≡ at
    → new ≡ record old { queues = with_last (slot_at old.tasks callee.0 entry) (record { call = at; caller = by.0 }) old.queues; spare = old.spare - 1 }
    → HaveRequeued before (Joins by callee entry) old new
joined old new before by callee entry at place is =
    let next : at ≡ suc (length before) = omega (arith, place) in
    subst (λ (n : ℕ). new ≡ record old {
      queues = with_last (slot_at old.tasks callee.0 entry) (record { call = n; caller = by.0 }) old.queues;
      spare = old.spare - 1;
    }) next is

-- a nest was changed so
abbrev pub HaveRenested : NestChange → TableState → TableState → Type 0
HaveRenested SameNests old new = new ≡ old
HaveRenested (Enters task member) old new =
    new ≡ record old { tasks = with_nest task.0 ((task_at old.tasks task.0).nest ++ member ∷ []) old.tasks }
HaveRenested (LeavesBlock task) old new =
    new ≡ record old {
      tasks = with_nest task.0 (take (length (task_at old.tasks task.0).nest - 1) (task_at old.tasks task.0).nest) old.tasks;
    }
HaveRenested (EndsRendezvous task call) old new =
    new ≡ record old { tasks = with_nest task.0 (cut call (task_at old.tasks task.0).nest) old.tasks }

-- one task got the phase that a right record tells, or none did
abbrev pub HaveRephased : Event → List Event → Option TaskNo → TableState → TableState → Type 0
HaveRephased event before None old new = new ≡ old
HaveRephased event before (Some task) old new = (kept : Record) × IsRecordOf (event ∷ before) task.0 kept × (new ≡ refreshed task.0 kept old)

-- nothing but the queues was changed by the first
requeued_kept : (before : List Event) (change : QueueChange) (old new : TableState) → HaveRequeued before change old new
    → (new ≡ record old { queues = new.queues; spare = new.spare }) × (length new.queues ≡ length old.queues)
requeued_kept before SameQueues old new is = rw is (refl, refl)
requeued_kept before (Joins by callee entry) old new is = rw is (refl, length-set old.queues _ _)
requeued_kept before (Leaves task) old new is = (
  is ∙ ap (λ (s : TableState). record old { queues = s.queues; spare = new.spare }) (sym is),
  ap (λ (s : TableState). length s.queues) is ∙ length-map old.queues (filter (λ c. not (is_by task.0 c))),
)

-- nor but the tasks by the second and the third
renested_kept : (change : NestChange) (old new : TableState) → HaveRenested change old new → new ≡ record old { tasks = new.tasks }
renested_kept SameNests old new is = rw is refl
renested_kept (Enters task member) old new is = rw is refl
renested_kept (LeavesBlock task) old new is = rw is refl
renested_kept (EndsRendezvous task call) old new is = rw is refl

rephased_kept : (event : Event) (before : List Event) (touched : Option TaskNo) (old new : TableState) → HaveRephased event before touched old new
    → new ≡ record old { tasks = new.tasks }
rephased_kept event before None old new is = rw is refl
rephased_kept event before (Some task) old new is = rw (is.2) (refreshed_kept task.0 is.0 old)

module _ (event : Event) (before : List Event) (old : TableState) (hold : HoldFacts old.tasks before) where
  requeued : (change : QueueChange) (new : TableState) → HoldQueues old before → HaveAllQueues old before → ChangesQueues event before change
      → HaveRequeued before change old new → HoldQueues new (event ∷ before)
  requeued SameQueues new queues slots changes is = rw is (queues_same event before old queues changes)
  requeued (Joins by callee entry) new queues slots changes is =
      queues_joined event before old new by.0 callee.0 entry _ _ hold queues slots changes refl is
  requeued (Leaves task) new queues slots changes is = queues_left_by event before old new task.0 queues changes is

  renested : (change : NestChange) (new : TableState) → ChangesNests event before change → HaveRenested change old new → AreRenested event before new.tasks
  renested SameNests new changes is = rw is (nests_same event before old.tasks hold changes)
  renested (Enters task member) new changes is = rw is (nest_becomes event before old.tasks task.0 (λ n. n ++ member ∷ []) hold changes.1)
  renested (LeavesBlock task) new changes is = rw is (nest_becomes event before old.tasks task.0 (λ n. take (length n - 1) n) hold changes.1)
  renested (EndsRendezvous task call) new changes is = rw is (nest_becomes event before old.tasks task.0 (cut call) hold changes)

rephased : (event : Event) (before : List Event) (touched : Option TaskNo) (old new : TableState) → creation_in event ≡ None
    → TouchesOnly event before touched → AreRenested event before old.tasks → HaveRephased event before touched old new → HoldFacts new.tasks (event ∷ before)
rephased event before None old new makes touches nests is =
    rw is (all_done event before (λ _. false) old.tasks makes (λ t below undone. touches t) nests)
rephased event before (Some task) old new makes touches nests is = one_refreshed event before old new task is.0 makes touches nests is.1 is.2

pub known_stand : (event : Event) (before : List Event) (queues : QueueChange) (nests : NestChange) (touched : Option TaskNo)
    → (old queued nested new : TableState) → AreKnown event before queues nests touched → HaveRequeued before queues old queued
    → HaveRenested nests queued nested
    → HaveRephased event before touched nested new → IsLawful (event ∷ before) → StandAfter before event old new
known_stand event before queues nests touched old queued nested new known first second third lawful stand slots =
    let hold : HoldFacts old.tasks before = record { many = stand.many; facts = stand.tasks } in
    let once = requeued_kept before queues old queued first in
    let twice = renested_kept nests queued nested second in
    let thrice = rephased_kept event before touched nested new third in
    let queued_hold = subst (λ (s : TableState). HoldFacts s.tasks before) (sym once.0) hold in
    let are = renested event before queued queued_hold nests nested known.nests second in (
      followed event before old queued nested new known.makes stand once.0 twice thrice lawful
          (requeued event before old hold queues queued stand.queues slots known.queues first)
          (rephased event before touched nested new known.makes known.touches are third),
      slots_followed event before old queued nested new known.makes stand once.0 twice thrice once.1 slots,
    )

-- where one task's phase changes, as its record tells
pub known_followed : (event : Event) (before : List Event) (records : List Record) (queues : QueueChange) (nests : NestChange) (task : TaskNo)
    → (old queued nested new : TableState) → AreKnown event before queues nests (Some task) → HaveRequeued before queues old queued
    → HaveRenested nests queued nested → task.0 < length records → new ≡ refreshed task.0 (record_at records task.0) nested
    → HaveFollowedAfter before event records old new
known_followed event before records queues nests task old queued nested new known first second within third lawful right =
    known_stand event before queues nests (Some task) old queued nested new known first second
    (record_at records task.0, right.each task.0 within, third) lawful

-- a tick and an abort change nothing that the tables hold
pub tick_stand : (event : Event) (before : List Event) (tables : TableState) (now : ℤ) → event ≡ Ticked now → IsLawful (event ∷ before)
    → StandAfter before event tables tables
tick_stand event before tables now is lawful =
    known_stand event before SameQueues SameNests None tables tables tables tables (tick_known event before now is lawful) refl refl refl lawful

pub abort_stand : (event : Event) (before : List Event) (tables : TableState) (by : TaskNo) (tasks : List TaskNo) → event ≡ Aborted by tasks
    → IsLawful (event ∷ before) → StandAfter before event tables tables
abort_stand event before tables by tasks is lawful =
    known_stand event before SameQueues SameNests None tables tables tables tables (abort_known event before by tasks is lawful) refl refl refl lawful
