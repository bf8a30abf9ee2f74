-- Tables that follow an event which changes the phases of several tasks, and no queue and no nest.
use Rattle.std.proofs.Common.{◌≡◌, ◌+◌, ◌<◌, ℕ, None, List, ◌∷◌, length, get_or, refl, ap, ◌∙◌, arith}
use Rattle.ada_events.specs.declared.event.Event.{Event}
use Rattle.ada_events.specs.declared.event.Event.TheVariants.{Started, Quit}
use Rattle.ada_events.specs.declared.names.Master.{Master}
use Rattle.ada_events.specs.declared.names.TaskNo.{TaskNo}
use Rattle.ada_events.specs.Lawful.{IsLawful}
use Rattle.ada_events.specs.Masters.{depends_on}
use Rattle.ada_events.specs.Says.{creation_in, call_in, released_in, meeting_in, completed_in, opening_in}
use Rattle.ada_events.specs.Tasks.{task_count}
use Rattle.ada_tables.specs.Tables.{TableState}
use Rattle.ada_records.specs.declared.record.Record.{Record}
use Rattle.ada_records.specs.Facing.{HoldFacts}
use Rattle.ada_records.specs.Followed.{HaveFollowedAfter, StandAfter}
use Rattle.ada_records.specs.Records.{ListsLive, record_at}
use Rattle.ada_records.specs.internal.Phasing.{AreRefreshed, refreshed}
use Rattle.ada_records.proofs.turning.Requeuing.{ChangesQueues}
use Rattle.ada_records.proofs.turning.Requeuing.QueueChange.{Nothing as SameQueues}
use Rattle.ada_records.proofs.following.Followed.{followed, slots_followed}
use Rattle.ada_records.proofs.turning.NestTurns.{nests_kept}
use Rattle.ada_records.proofs.turning.QueueTurns.{queues_kept}
use Rattle.ada_records.proofs.phase_changes.Quitting.{all_quit}
use Rattle.ada_records.proofs.following.Refreshing.{all_named, kept_more, one_named, refreshed_many, right_behind}
use Rattle.ada_records.proofs.following.Renested.{nests_same}
use Rattle.ada_records.proofs.following.Requeued.{queues_same}

-- before the first
pub none_refreshed : (records : List Record) (tasks : List TaskNo) (first : TableState) → AreRefreshed records tasks first first 0
none_refreshed records tasks first = record { same = refl; named = λ event before makes right nests. (nests, refl) }

-- one more
pub one_more_refreshed : (records : List Record) (tasks : List TaskNo) (first old new : TableState) (many : ℕ) (d : TaskNo)
    → AreRefreshed records tasks first old many → many < length tasks → (get_or tasks many d).0 < length first.tasks
    → new ≡ refreshed (get_or tasks many d).0 (record_at records (get_or tasks many d).0) old → AreRefreshed records tasks first new (many + 1)
one_more_refreshed records tasks first old new many d so_far below tabled is = record {
  same = ap (λ (s : TableState). length s.tasks) is ∙ refreshed_many (get_or tasks many d).0 (record_at records (get_or tasks many d).0) old ∙ so_far.same;
  named = λ event before makes right nests.
      let known : (get_or tasks many d).0 < task_count before = omega (arith, tabled, nests.many) in
      one_named event before tasks first old new many d (record_at records (get_or tasks many d).0) (so_far.named event before makes right nests) below known
      (right_behind event before records (get_or tasks many d).0 makes right known).1 is;
}

same_but_phases : (event : Event) (before : List Event) (old new : TableState) → creation_in event ≡ None → ChangesQueues event before SameQueues
    → new ≡ record old { tasks = new.tasks } → HoldFacts new.tasks (event ∷ before) → IsLawful (event ∷ before) → StandAfter before event old new
same_but_phases event before old new makes queues only phases lawful stand slots = (
  followed event before old old old new makes stand refl refl only lawful (queues_same event before old stand.queues queues) phases,
  slots_followed event before old old old new makes stand refl refl only refl slots,
)

pub start_followed : (before : List Event) (records : List Record) (by : TaskNo) (tasks : List TaskNo) (first old new : TableState)
    → AreRefreshed records tasks first old (length tasks) → by.0 < length first.tasks → new ≡ refreshed by.0 (record_at records by.0) old
    → HaveFollowedAfter before (Started by tasks) records first new
unfolding creation_in call_in released_in meeting_in completed_in opening_in
start_followed before records by tasks first old new listed tabled is lawful right stand =
    let event = Started by tasks in
    let known : by.0 < task_count before = omega (arith, tabled, stand.many) in
    let kept = nests_kept event event before refl refl refl refl lawful in
    let nests = nests_same event before first.tasks (record { many = stand.many; facts = stand.tasks }) kept in
    let named = listed.named event before refl right nests in
    same_but_phases event before first new refl (queues_kept event event before refl refl refl refl refl lawful)
    (kept_more by.0 (record_at records by.0) first old new named.1 is)
    (all_named event before by tasks first old new (length tasks) (record_at records by.0) lawful refl refl (omega arith) named known
    (right_behind event before records by.0 refl right known).1 is)
    lawful stand

pub quit_followed : (before : List Event) (master : Master) (records : List Record) (tasks : List TaskNo) (first new : TableState)
    → ListsLive before tasks (λ u. depends_on before u master) → AreRefreshed records tasks first new (length tasks)
    → HaveFollowedAfter before (Quit master) records first new
unfolding creation_in call_in released_in meeting_in completed_in opening_in
quit_followed before master records tasks first new lists listed lawful right stand =
    let event = Quit master in
    let kept = nests_kept event event before refl refl refl refl lawful in
    let nests = nests_same event before first.tasks (record { many = stand.many; facts = stand.tasks }) kept in
    let named = listed.named event before refl right nests in
    same_but_phases event before first new refl (queues_kept event event before refl refl refl refl refl lawful) named.1
    (all_quit event before master tasks first new (length tasks) lawful refl lists (omega arith) named) lawful stand
