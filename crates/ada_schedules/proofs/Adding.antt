-- What a request adds: events, and one task at most.
use Rattle.std.proofs.Common.{◌≡◌, ℕ, suc, ◌+◌, ◌<◌, ◌≤◌, ℤ, Option, Some, None, List, ◌∷◌, length, arith}
use Rattle.std.proofs.Common.{refl, ◌∙◌}
use Rattle.std.specs.Option.{option_len}
use Rattle.ada_events.specs.declared.event.Event.{Event}
use Rattle.ada_events.specs.declared.request.Request.{Request}
use Rattle.ada_events.specs.declared.request.Request.TheVariants as requests
use Rattle.ada_events.specs.declared.names.TaskNo.{TaskNo}
use Rattle.ada_events.specs.declared.names.Master.{Master}
use Rattle.ada_events.specs.declared.names.Family.{Family}
use Rattle.ada_events.specs.Says.{Creation, creation_in}
use Rattle.ada_events.specs.Tasks.{task_count}
use Rattle.ada_events.specs.Asks.{asked_event}
use Rattle.ada_events.specs.Lawful.{After, Forces}
use Rattle.ada_laws.proofs.searching.Growing.{task_count-same}
use Rattle.ada_laws.proofs.forced.Stepping.{forced-step}

forced_count : (from to : List Event) → Forces from to → task_count to ≡ task_count from
forced_count from to (Forces.nothing) = refl
forced_count from to (Forces.one_more {journal = journal} {event = event} before step) =
    task_count-same event journal (forced-step journal event step).makes_none ∙ forced_count from journal before

forced_length : (from to : List Event) → Forces from to → length from ≤ length to
forced_length from to (Forces.nothing) = omega arith
forced_length from to (Forces.one_more {journal = journal} {event = event} before step) =
    let longer = forced_length from journal before in
    omega (arith, longer)

at_most_one : (o : Option Creation) (n : ℕ) → option_len o + n ≤ suc n
at_most_one None n = omega arith
at_most_one (Some c) n = omega arith

one_task_more : (event : Event) (journal : List Event) → task_count (event ∷ journal) ≤ suc (task_count journal)
unfolding task_count
one_task_more event journal = at_most_one (creation_in event) (task_count journal)

-- a request makes at most one task
pub few_more : (old : List Event) (request : Request) (new : List Event) → After old request new → task_count new ≤ suc (task_count old)
few_more old request new after =
    let same = forced_count (asked_event old request ∷ old) new after.forces in
    let one = one_task_more (asked_event old request) old in
    omega (arith, same, one)

created_count : (journal : List Event) (by : TaskNo) (master : Master) (families : List Family)
    → task_count (asked_event journal (requests.Create by master families) ∷ journal) ≡ suc (task_count journal)
unfolding task_count asked_event creation_in
created_count journal by master families = omega arith

-- and a creation makes one
pub one_made : (old : List Event) (by : TaskNo) (master : Master) (families : List Family) (new : List Event)
    → After old (requests.Create by master families) new → task_count old < task_count new
one_made old by master families new after =
    let same = forced_count (asked_event old (requests.Create by master families) ∷ old) new after.forces in
    let one = created_count old by master families in
    omega (arith, same, one)

ticked_count : (journal : List Event) (now : ℤ) → task_count (asked_event journal (requests.Tick now) ∷ journal) ≡ task_count journal
unfolding task_count asked_event creation_in
ticked_count journal now = omega arith

-- a tick makes none
pub none_made : (old : List Event) (now : ℤ) (new : List Event) → After old (requests.Tick now) new → task_count new ≡ task_count old
none_made old now new after = forced_count (asked_event old (requests.Tick now) ∷ old) new after.forces ∙ ticked_count old now

-- there is an event more
pub longer_after : (old : List Event) (request : Request) (new : List Event) → After old request new → length old < length new
longer_after old request new after =
    let longer = forced_length (asked_event old request ∷ old) new after.forces in
    omega (arith, longer)
