-- The limits that lawful journals keep: the laws.
use Rattle.std.proofs.Common.{◌≡◌, ℕ, zero, suc, ◌+◌, ◌*◌, ◌<◌, ◌≤◌, Option, Some, None, List, [], ◌∷◌, length, refl, arith, inl, inr}
use Rattle.ada_events.specs.declared.event.Event.{Event}
use Rattle.ada_events.specs.declared.request.Request.{Request}
use Rattle.ada_events.specs.Tasks.{task_count}
use Rattle.ada_events.specs.Forced.{forced}
use Rattle.ada_events.specs.Asks.{asked_event}
use Rattle.ada_events.specs.Refusals.{refusal}
use Rattle.ada_events.specs.declared.limits.TheConstants.{MOST_TASKS, MOST_EVENTS, MOST_APPENDED}
use Rattle.ada_events.specs.Lawful.{IsLawful, IsSettled, Forces}
use Rattle.ada_events.specs.Lawful.Forces.{nothing, one_more}
use Rattle.ada_laws.specs.Work.{work_left}
use Rattle.ada_laws.specs.Limits.{TasksAreFew, WorkIsThreeForEachTask, StepsLessenTheWork, AppendsFew, LeadsToAJournal, LeadsToFewEvents, EventsAreFew}
use Rattle.ada_laws.specs.Unlimited.{IsLawfulUnlimited, LeadsOnUnlimited, refusal_but_limits}
use Rattle.ada_laws.proofs.asking.Limitless.{accepted_without_limits, lawful_unlimited}
use Rattle.ada_laws.proofs.forced.Forcing.{forces_on, forces_lawful}
use Rattle.ada_laws.proofs.searching.Growing.{task_count-same}
use Rattle.ada_laws.proofs.asking.Accepting.{creates_within, accepted_has_room}
use Rattle.ada_laws.proofs.forced.Stepping.{forced-step}
use Rattle.ada_laws.proofs.forced.Working.{work_left-three, work_left-forced, work_left-forced-unlimited}

pub work_is_three_for_each_task : WorkIsThreeForEachTask
work_is_three_for_each_task journal lawful = work_left-three journal

pub steps_lessen_the_work : StepsLessenTheWork
steps_lessen_the_work journal event lawful forces = work_left-forced event journal lawful forces

pub tasks_are_few : TasksAreFew
unfolding task_count
tasks_are_few [] lawful = omega arith
tasks_are_few (event ∷ before) lawful =
    let few : task_count before ≤ MOST_TASKS = tasks_are_few before lawful.0 in
    elim lawful.1 [
      | inl forces ↦ rw (task_count-same event before (forced-step before event forces).makes_none) few
      | inr asked ↦ rw asked.becomes (creates_within before asked.request asked.accepted few)
    ]

-- the work left is at most 768
pub work_left-most : (journal : List Event) → IsLawful journal → work_left journal ≤ 768
work_left-most journal lawful =
    let few : task_count journal ≤ 256 = tasks_are_few journal lawful in
    let three : work_left journal ≤ 3 * task_count journal = work_left-three journal in
    omega arith

-- a journal with an accepted request's event is lawful
asked_lawful-unlimited : (old : List Event) (request : Request) → IsLawfulUnlimited old → IsSettled old → refusal_but_limits old request ≡ None
    → IsLawfulUnlimited (asked_event old request ∷ old)
asked_lawful-unlimited old request lawful settled accepted =
    (lawful, inr (record { settled = settled; request = request; accepted = accepted; becomes = refl }))

pub asked_lawful : (old : List Event) (request : Request) → IsLawful old → IsSettled old → refusal old request ≡ None → IsLawful (asked_event old request ∷ old)
asked_lawful old request lawful settled accepted =
    (lawful, inr (record { settled = settled; request = request; accepted = accepted; becomes = refl }))

-- the events that forced steps append are at most the work that was left
pub forces_few : (from to : List Event) → IsLawful from → Forces from to → length to + work_left to ≤ length from + work_left from
forces_few from to lawful nothing = omega arith
forces_few from to lawful (one_more {journal = journal} {event = event} before step) =
    let few : length journal + work_left journal ≤ length from + work_left from = forces_few from journal lawful before in
    let less : work_left (event ∷ journal) < work_left journal = work_left-forced event journal (forces_lawful from journal before lawful) step in
    omega arith

pub appends_few : AppendsFew
appends_few old request new lawful settled accepted after =
    let next = asked_lawful old request lawful settled accepted in
    let few : length new + work_left new ≤ suc (length old) + work_left (asked_event old request ∷ old) = forces_few (asked_event old request ∷ old) new next
    after.forces in
    let most : work_left (asked_event old request ∷ old) ≤ 768 = work_left-most (asked_event old request ∷ old) next in
    omega arith

pub leads_to_few_events : LeadsToFewEvents
leads_to_few_events old request new lawful settled accepted after =
    let few : length new ≤ length old + MOST_APPENDED = appends_few old request new lawful settled accepted after in
    let room : length old + MOST_APPENDED ≤ MOST_EVENTS = accepted_has_room old request accepted in
    omega arith

-- there is room for the work that is left
pub room_for_work : (journal : List Event) → IsLawful journal → length journal + work_left journal ≤ MOST_EVENTS
room_for_work [] lawful =
    let most : work_left [] ≤ 768 = work_left-most [] lawful in
    omega arith
room_for_work (event ∷ before) lawful =
    elim lawful.1 [
      | inl forces ↦
          let room : length before + work_left before ≤ MOST_EVENTS = room_for_work before lawful.0 in
          let less : work_left (event ∷ before) < work_left before = work_left-forced event before lawful.0 forces in
          omega arith
      | inr asked ↦
          let room : length before + MOST_APPENDED ≤ MOST_EVENTS = accepted_has_room before asked.request asked.accepted in
          let most : work_left (event ∷ before) ≤ 768 = work_left-most (event ∷ before) lawful in
          omega arith
    ]

pub events_are_few : EventsAreFew
events_are_few journal lawful =
    let room : length journal + work_left journal ≤ MOST_EVENTS = room_for_work journal lawful in
    omega arith

-- the forced steps from a journal on, while there is work left
settle_from : (journal : List Event) (next : Option Event) → forced journal ≡ next
    → ((event : Event) → forced journal ≡ Some event → (new : List Event) × Forces (event ∷ journal) new × (forced new ≡ None)) → (new : List Event)
    × Forces journal new × (forced new ≡ None)
settle_from journal None step further = (journal, nothing, step)
settle_from journal (Some event) step further =
    let (new, forces, settled) = further event step in
    (new, forces_on journal (event ∷ journal) new forces (one_more nothing step), settled)

settles-unlimited : (work : ℕ) (journal : List Event) → IsLawfulUnlimited journal → work_left journal ≤ work
    → (new : List Event) × Forces journal new × (forced new ≡ None)
settles-unlimited zero journal lawful enough =
    settle_from journal (forced journal) refl (λ event step.
    let less : work_left (event ∷ journal) < work_left journal = work_left-forced-unlimited event journal lawful step in
    absurd (omega arith))
settles-unlimited (suc work) journal lawful enough =
    settle_from journal (forced journal) refl (λ event step.
    let less : work_left (event ∷ journal) < work_left journal = work_left-forced-unlimited event journal lawful step in
    settles-unlimited work (event ∷ journal) (lawful, inl step) (omega arith))

-- what a request leads to exists wherever the request isn't refused, where tasks, slots and events have no limit
pub leads_on-unlimited : LeadsOnUnlimited
leads_on-unlimited old request lawful settled accepted =
    let next = asked_event old request ∷ old in
    let (new, forces, ends) = settles-unlimited (work_left next) next (asked_lawful-unlimited old request lawful settled accepted) (omega arith) in
    (new, record { forces = forces; settled = ends })

pub leads_to_a_journal : LeadsToAJournal
leads_to_a_journal old request lawful settled accepted =
    leads_on-unlimited old request (lawful_unlimited old lawful) settled (accepted_without_limits old request accepted)
