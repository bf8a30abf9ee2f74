-- The first creation is lawful.
use Rattle.std.proofs.Common.{◌≡◌, List, [], ◌∷◌, pos, refl, sym, subst, inr}
use Rattle.ada_events.specs.declared.event.Event.{Event}
use Rattle.ada_events.specs.declared.event.Event.TheVariants.{Created}
use Rattle.ada_events.specs.declared.names.Family.{Family}
use Rattle.ada_events.specs.declared.names.Master.TheVariants.{Body}
use Rattle.ada_events.specs.declared.names.TaskNo.{TaskNo}
use Rattle.ada_events.specs.declared.request.Request.TheVariants.{Create}
use Rattle.ada_events.specs.Lawful.{IsLawful}
use Rattle.ada_events.specs.Search.{any_event, first_given, gathered, event_at, first_below, all_below}
use Rattle.ada_events.specs.Says.{creation_in, opening_in, start_in, call_in, wait_in, delay_in, closing_in, meeting_in, moment_in, started_in, aborted_in}
use Rattle.ada_events.specs.Says.{elaborated_in, failed_in, completed_in, gone_in, quit_in, left_in, held_in, released_in}
use Rattle.ada_events.specs.Entries.{entry_count, entries_in}
use Rattle.ada_events.specs.Tasks.{task_count, creation_of, families_of, moment}
use Rattle.ada_events.specs.Masters.{parent_in, reaches, depends_on}
use Rattle.ada_events.specs.Phases.{has_start, is_elaborated, has_failed, is_completed, is_terminated, has_ended, is_abnormal, is_released, is_suspended}
use Rattle.ada_events.specs.Phases.{is_started, is_running}
use Rattle.ada_events.specs.Calls.{is_met, is_open_at, is_joined_at, is_queued_at, is_open_call, is_caller_in_rendezvous, is_call_of, queue, count_of}
use Rattle.ada_events.specs.Calls.{is_pending}
use Rattle.ada_events.specs.Nests.{is_left_close, is_left, is_wait_of, member_at, nest, innermost_block, frame}
use Rattle.ada_events.specs.Waits.{numbers_from, front_of, is_selectable, taken_choice, taken_call, earlier, least_due, taken_delay, way_of}
use Rattle.ada_events.specs.Forced.{is_to_halt, halted, is_to_fail, failed, met_at, met, is_to_cancel, cancelled, passed_at, passed, is_to_wake, woken}
use Rattle.ada_events.specs.Forced.{is_done_activating, activated_at, activated, is_to_go, gone, is_to_quit, quit_body, quit_block, is_to_leave, left}
use Rattle.ada_events.specs.Forced.{first_of_all, forced}
use Rattle.ada_events.specs.Termination.{all_terminated, is_complete_block, is_complete, is_abandoned, has_empty_queues, is_ready_to_quit}
use Rattle.ada_events.specs.Asks.{asker, named_tasks, due_after, asked_event}
use Rattle.ada_events.specs.Refusals.{names_unknown_task, asker_not_running, is_during_activation, is_not_activating, is_not_your_master, has_empty_list}
use Rattle.ada_events.specs.Refusals.{may_activate, has_double_task, is_not_your_task, has_no_accept, lacks_family, names_no_family, is_outside}
use Rattle.ada_events.specs.Refusals.{breaks_constraint, is_rendezvous_for, nests_same_family, terminates_in_accept, is_not_in_accept, has_no_block}
use Rattle.ada_events.specs.Refusals.{is_still_nested, aborts_main, first_cause, causes, refusal}
use Rattle.ada_events.specs.Limits.{moves_back, is_too_late, makes_too_many_tasks, slot_count, makes_too_many_slots, is_too_deep, is_full}

abbrev pub main : TaskNo
main = record { 0 = 0 }

abbrev pub three_entries : Family
three_entries = record { low = pos 0; high = pos 2 }

-- the main program makes a task with these families of entries
abbrev pub first_event : List Family → Event
first_event families = Created main (Body main) (Body main) families

alone_lawful : IsLawful (first_event (three_entries ∷ []) ∷ [])
unfolding any_event first_given gathered event_at first_below all_below creation_in opening_in start_in call_in wait_in delay_in closing_in meeting_in moment_in
    started_in aborted_in elaborated_in failed_in completed_in gone_in quit_in left_in held_in released_in entry_count entries_in task_count creation_of
    families_of moment parent_in reaches depends_on has_start is_elaborated has_failed is_completed is_terminated has_ended is_abnormal is_released is_suspended
    is_started is_running is_met is_open_at is_joined_at is_queued_at is_open_call is_caller_in_rendezvous is_call_of queue count_of is_left_close is_left
    is_wait_of member_at nest innermost_block frame numbers_from front_of is_selectable taken_choice taken_call earlier least_due taken_delay way_of
    all_terminated is_complete_block is_complete is_abandoned has_empty_queues is_ready_to_quit is_pending is_to_halt halted is_to_fail failed met_at met
    is_to_cancel cancelled passed_at passed is_to_wake woken is_done_activating activated_at activated is_to_go gone is_to_quit quit_body quit_block is_to_leave
    left first_of_all forced asker named_tasks due_after asked_event names_unknown_task asker_not_running is_during_activation is_not_activating
    is_not_your_master has_empty_list may_activate has_double_task is_not_your_task has_no_accept lacks_family names_no_family is_outside breaks_constraint
    is_rendezvous_for nests_same_family terminates_in_accept is_not_in_accept has_no_block is_still_nested aborts_main moves_back is_too_late
    makes_too_many_tasks slot_count makes_too_many_slots is_too_deep is_full first_cause causes refusal
alone_lawful = (
  tt,
  inr (record {
    settled = refl;
    request = Create main (Body main) (three_entries ∷ []);
    accepted = refl;
    becomes = refl;
  }),
)

pub first_lawful : (journal : List Event) (families : List Family) → journal ≡ [] → families ≡ three_entries ∷ [] → IsLawful (first_event families ∷ journal)
first_lawful journal families empty named =
    subst (λ (events : List Event). IsLawful (first_event families ∷ events)) (sym empty)
    (subst (λ (fs : List Family). IsLawful (first_event fs ∷ [])) (sym named) alone_lawful)
