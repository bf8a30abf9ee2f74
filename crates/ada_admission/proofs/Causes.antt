-- The causes for which each request is refused, without those that never apply to it.
use Rattle.std.proofs.Common.{◌≡◌, ℕ, ℤ, Bool, true, not, ◌||◌, ◌&&◌, ◌+◌, eqb, List, [], ◌∷◌, ◌++◌, length, refl}
use Rattle.std.proofs.Math.Bool.{or-false}
use Rattle.std.specs.Prelude.{nat_le, nat_lt, int_lt}
use Rattle.std.specs.List.{list_any}
use Rattle.std.specs.Option.{option_map_or}
use Rattle.ada_events.specs.declared.event.Event.{Event}
use Rattle.ada_events.specs.declared.limits.TheConstants.{MOST_MEMBERS, MOST_TASKS, MOST_SLOTS, LAST_MOMENT}
use Rattle.ada_events.specs.declared.names.Choice.{Choice}
use Rattle.ada_events.specs.declared.names.Entry.{Entry}
use Rattle.ada_events.specs.declared.names.Family.{Family}
use Rattle.ada_events.specs.declared.names.Master.{Master}
use Rattle.ada_events.specs.declared.names.Patience.{Patience}
use Rattle.ada_events.specs.declared.names.TaskNo.{TaskNo}
use Rattle.ada_events.specs.declared.refusal.Refusal.TheVariants.{UnknownTask, NotRunning, DuringActivation, NotActivating, NotYourMaster, EmptyList}
use Rattle.ada_events.specs.declared.refusal.Refusal.TheVariants.{NotYourTask, NoAccept, NoSuchFamily, ConstraintError, SameFamilyNested, TerminateInAccept}
use Rattle.ada_events.specs.declared.refusal.Refusal.TheVariants.{NotInAccept, NoBlock, StillNested, MainTask, MomentBack, MomentTooLarge, TooManyTasks}
use Rattle.ada_events.specs.declared.refusal.Refusal.TheVariants.{TooManySlots, TooDeep, JournalFull}
use Rattle.ada_events.specs.declared.request.Request.TheVariants.{Open, Create, Activate, Elaborated, Call, Wait, Delay, End, Close, Complete, Abort, Tick}
use Rattle.ada_events.specs.declared.request.Tail.{Tail}
use Rattle.ada_events.specs.declared.request.Tail.TheVariants.{Nothing}
use Rattle.ada_events.specs.Asks.{asker, named_tasks, body_task}
use Rattle.ada_events.specs.Entries.{entries_in}
use Rattle.ada_events.specs.Limits.{moves_back, ends_too_late, is_too_late, makes_too_many_tasks, slot_count, makes_too_many_slots, is_too_deep, is_full}
use Rattle.ada_events.specs.Masters.{reaches}
use Rattle.ada_events.specs.Nests.{nest, innermost, frame}
use Rattle.ada_events.specs.Phases.{is_elaborated, is_running, lists_task}
use Rattle.ada_events.specs.Refusals.{cause, first_cause, causes, causes_by_nest, causes_by_limit, refusal, names_unknown_task, asker_not_running}
use Rattle.ada_events.specs.Refusals.{is_during_activation, is_not_activating, is_not_your_master, has_empty_list, may_activate, has_double_task}
use Rattle.ada_events.specs.Refusals.{is_not_your_task, has_no_accept, names_no_family, lacks_family, breaks_constraint, is_outside, is_rendezvous}
use Rattle.ada_events.specs.Refusals.{is_rendezvous_for, nests_same_family, terminates_in_accept, is_not_in_accept, has_no_block, is_still_nested, aborts_main}
use Rattle.ada_events.specs.Search.{is_some_and}
use Rattle.ada_events.specs.Tasks.{has_task, task_count, moment}

-- the opening of a block
pub open_causes : (journal : List Event) (by : TaskNo)
    → refusal journal (Open by)
    ≡ first_cause (cause (not (has_task journal by.0)) UnknownTask
    ∷ cause (not (is_running journal by.0)) NotRunning
    ∷ cause (nat_le MOST_MEMBERS (length (nest journal by.0))) TooDeep
    ∷ cause (is_full journal) JournalFull
    ∷ [])
unfolding refusal causes first_cause names_unknown_task asker named_tasks asker_not_running is_during_activation is_not_activating is_not_your_master
    has_empty_list is_not_your_task has_no_accept names_no_family breaks_constraint nests_same_family terminates_in_accept is_not_in_accept has_no_block
    is_still_nested aborts_main moves_back is_too_late makes_too_many_tasks makes_too_many_slots is_too_deep
open_causes journal by =
    simp or-false refl

-- the creation of a task
pub create_causes : (journal : List Event) (by : TaskNo) (master : Master) (families : List Family)
    → refusal journal (Create by master families)
    ≡ first_cause (cause (not (has_task journal by.0) || list_any (λ (t : TaskNo). not (has_task journal t.0)) (body_task master)) UnknownTask
    ∷ cause (not (is_running journal by.0)) NotRunning
    ∷ cause (not (reaches journal (frame journal by.0) master)) NotYourMaster
    ∷ cause (nat_le MOST_TASKS (task_count journal)) TooManyTasks
    ∷ cause (nat_lt MOST_SLOTS (slot_count journal + entries_in families)) TooManySlots
    ∷ cause (is_full journal) JournalFull
    ∷ [])
unfolding refusal causes first_cause names_unknown_task asker named_tasks asker_not_running is_during_activation is_not_activating is_not_your_master
    has_empty_list is_not_your_task has_no_accept names_no_family breaks_constraint nests_same_family terminates_in_accept is_not_in_accept has_no_block
    is_still_nested aborts_main moves_back is_too_late makes_too_many_tasks makes_too_many_slots is_too_deep
create_causes journal by master families =
    refl

-- the start of an activation
pub activate_causes : (journal : List Event) (by : TaskNo) (tasks : List TaskNo)
    → refusal journal (Activate by tasks)
    ≡ first_cause (cause (not (has_task journal by.0) || list_any (λ (t : TaskNo). not (has_task journal t.0)) tasks) UnknownTask
    ∷ cause (not (is_running journal by.0)) NotRunning
    ∷ cause (eqb (length tasks) 0) EmptyList
    ∷ cause (list_any (λ (t : TaskNo). not (may_activate journal by.0 t.0)) tasks || has_double_task tasks) NotYourTask
    ∷ cause (is_full journal) JournalFull
    ∷ [])
unfolding refusal causes first_cause names_unknown_task asker named_tasks asker_not_running is_during_activation is_not_activating is_not_your_master
    has_empty_list is_not_your_task has_no_accept names_no_family breaks_constraint nests_same_family terminates_in_accept is_not_in_accept has_no_block
    is_still_nested aborts_main moves_back is_too_late makes_too_many_tasks makes_too_many_slots is_too_deep
activate_causes journal by tasks =
    refl

-- the end of a task's own activation
pub elaborated_causes : (journal : List Event) (by : TaskNo) (ok : Bool)
    → refusal journal (Elaborated by ok)
    ≡ first_cause (cause (not (has_task journal by.0)) UnknownTask
    ∷ cause (not (is_running journal by.0)) NotRunning
    ∷ cause (is_elaborated journal by.0) NotActivating
    ∷ cause (not (eqb (length (nest journal by.0)) 0)) StillNested
    ∷ cause (is_full journal) JournalFull
    ∷ [])
unfolding refusal causes first_cause names_unknown_task asker named_tasks asker_not_running is_during_activation is_not_activating is_not_your_master
    has_empty_list is_not_your_task has_no_accept names_no_family breaks_constraint nests_same_family terminates_in_accept is_not_in_accept has_no_block
    is_still_nested aborts_main moves_back is_too_late makes_too_many_tasks makes_too_many_slots is_too_deep
elaborated_causes journal by ok =
    simp or-false refl

-- an entry call
pub call_causes : (journal : List Event) (by callee : TaskNo) (entry : Entry) (patience : Patience)
    → refusal journal (Call by callee entry patience)
    ≡ first_cause (cause (not (has_task journal by.0) || not (has_task journal callee.0)) UnknownTask
    ∷ cause (not (is_running journal by.0)) NotRunning
    ∷ cause (lacks_family journal callee.0 entry) NoSuchFamily
    ∷ cause (is_outside journal callee.0 entry) ConstraintError
    ∷ cause (is_too_late journal (Call by callee entry patience)) MomentTooLarge
    ∷ cause (is_full journal) JournalFull
    ∷ [])
unfolding refusal causes first_cause names_unknown_task asker named_tasks asker_not_running is_during_activation is_not_activating is_not_your_master
    has_empty_list is_not_your_task has_no_accept names_no_family breaks_constraint nests_same_family terminates_in_accept is_not_in_accept has_no_block
    is_still_nested aborts_main moves_back makes_too_many_tasks makes_too_many_slots is_too_deep
call_causes journal by callee entry patience =
    rw (or-false (not (has_task journal callee.0))) refl

-- an accept statement
pub accept_causes : (journal : List Event) (by : TaskNo) (entry : Entry) (pick : ℕ)
    → refusal journal (Wait by (record { guard = true; entry = entry } ∷ []) Nothing pick)
    ≡ first_cause (cause (not (has_task journal by.0)) UnknownTask
    ∷ cause (not (is_running journal by.0)) NotRunning
    ∷ cause (not (is_elaborated journal by.0)) DuringActivation
    ∷ cause (lacks_family journal by.0 entry) NoSuchFamily
    ∷ cause (is_outside journal by.0 entry) ConstraintError
    ∷ cause (list_any (is_rendezvous_for journal entry.family) (nest journal by.0)) SameFamilyNested
    ∷ cause (nat_le MOST_MEMBERS (length (nest journal by.0))) TooDeep
    ∷ cause (is_full journal) JournalFull
    ∷ [])
unfolding refusal causes first_cause names_unknown_task asker named_tasks asker_not_running is_during_activation is_not_activating is_not_your_master
    has_empty_list is_not_your_task has_no_accept names_no_family breaks_constraint nests_same_family terminates_in_accept is_not_in_accept has_no_block
    is_still_nested aborts_main moves_back is_too_late makes_too_many_tasks makes_too_many_slots is_too_deep
accept_causes journal by entry pick =
    simp or-false refl

-- a selective wait: first those that its entries tell, then those of the nest, the moment and the limits
pub wait_causes : (journal : List Event) (by : TaskNo) (choices : List Choice) (tail : Tail) (pick : ℕ)
    → refusal journal (Wait by choices tail pick)
    ≡ first_cause (cause (not (has_task journal by.0)) UnknownTask
    ∷ cause (not (is_running journal by.0)) NotRunning
    ∷ cause (not (is_elaborated journal by.0)) DuringActivation
    ∷ cause (has_empty_list (Wait by choices tail pick)) EmptyList
    ∷ cause (eqb (length choices) 0) NoAccept
    ∷ cause (list_any (λ (c : Choice). lacks_family journal by.0 c.entry) choices) NoSuchFamily
    ∷ cause (list_any (λ (c : Choice). c.guard && is_outside journal by.0 c.entry) choices) ConstraintError
    ∷ causes_by_nest journal (Wait by choices tail pick) ++ causes_by_limit journal (Wait by choices tail pick))
unfolding refusal causes first_cause names_unknown_task asker named_tasks asker_not_running is_during_activation is_not_activating is_not_your_master
    is_not_your_task has_no_accept names_no_family breaks_constraint
wait_causes journal by choices tail pick =
    simp or-false refl

pub wait_causes_by_nest : (journal : List Event) (by : TaskNo) (choices : List Choice) (tail : Tail) (pick : ℕ)
    → first_cause (causes_by_nest journal (Wait by choices tail pick) ++ causes_by_limit journal (Wait by choices tail pick))
    ≡ first_cause (cause (list_any (λ (c : Choice). list_any (is_rendezvous_for journal c.entry.family) (nest journal by.0)) choices) SameFamilyNested
    ∷ cause (terminates_in_accept journal (Wait by choices tail pick)) TerminateInAccept
    ∷ cause (is_too_late journal (Wait by choices tail pick)) MomentTooLarge
    ∷ cause (nat_le MOST_MEMBERS (length (nest journal by.0))) TooDeep
    ∷ cause (is_full journal) JournalFull
    ∷ [])
unfolding first_cause nests_same_family is_not_in_accept has_no_block is_still_nested aborts_main moves_back makes_too_many_tasks makes_too_many_slots
    is_too_deep
wait_causes_by_nest journal by choices tail pick =
    refl

-- a delay statement
pub delay_causes : (journal : List Event) (by : TaskNo) (duration : ℤ)
    → refusal journal (Delay by duration)
    ≡ first_cause (cause (not (has_task journal by.0)) UnknownTask
    ∷ cause (not (is_running journal by.0)) NotRunning
    ∷ cause (ends_too_late (moment journal) duration) MomentTooLarge
    ∷ cause (is_full journal) JournalFull
    ∷ [])
unfolding refusal causes first_cause names_unknown_task asker named_tasks asker_not_running is_during_activation is_not_activating is_not_your_master
    has_empty_list is_not_your_task has_no_accept names_no_family breaks_constraint nests_same_family terminates_in_accept is_not_in_accept has_no_block
    is_still_nested aborts_main moves_back is_too_late makes_too_many_tasks makes_too_many_slots is_too_deep
delay_causes journal by duration =
    simp or-false refl

-- the end of an accept statement
pub end_causes : (journal : List Event) (by : TaskNo) (raised : Bool)
    → refusal journal (End by raised)
    ≡ first_cause (cause (not (has_task journal by.0)) UnknownTask
    ∷ cause (not (is_running journal by.0)) NotRunning
    ∷ cause (not (is_elaborated journal by.0)) DuringActivation
    ∷ cause (not (is_some_and (innermost (nest journal by.0)) is_rendezvous)) NotInAccept
    ∷ cause (is_full journal) JournalFull
    ∷ [])
unfolding refusal causes first_cause names_unknown_task asker named_tasks asker_not_running is_during_activation is_not_activating is_not_your_master
    has_empty_list is_not_your_task has_no_accept names_no_family breaks_constraint nests_same_family terminates_in_accept is_not_in_accept has_no_block
    is_still_nested aborts_main moves_back is_too_late makes_too_many_tasks makes_too_many_slots is_too_deep
end_causes journal by raised =
    simp or-false refl

-- the close of a block
pub close_causes : (journal : List Event) (by : TaskNo)
    → refusal journal (Close by)
    ≡ first_cause (cause (not (has_task journal by.0)) UnknownTask
    ∷ cause (not (is_running journal by.0)) NotRunning
    ∷ cause (option_map_or is_rendezvous (innermost (nest journal by.0)) true) NoBlock
    ∷ cause (is_full journal) JournalFull
    ∷ [])
unfolding refusal causes first_cause names_unknown_task asker named_tasks asker_not_running is_during_activation is_not_activating is_not_your_master
    has_empty_list is_not_your_task has_no_accept names_no_family breaks_constraint nests_same_family terminates_in_accept is_not_in_accept has_no_block
    is_still_nested aborts_main moves_back is_too_late makes_too_many_tasks makes_too_many_slots is_too_deep
close_causes journal by =
    simp or-false refl

-- a completion
pub complete_causes : (journal : List Event) (by : TaskNo)
    → refusal journal (Complete by)
    ≡ first_cause (cause (not (has_task journal by.0)) UnknownTask
    ∷ cause (not (is_running journal by.0)) NotRunning
    ∷ cause (not (is_elaborated journal by.0)) DuringActivation
    ∷ cause (not (eqb (length (nest journal by.0)) 0)) StillNested
    ∷ cause (is_full journal) JournalFull
    ∷ [])
unfolding refusal causes first_cause names_unknown_task asker named_tasks asker_not_running is_during_activation is_not_activating is_not_your_master
    has_empty_list is_not_your_task has_no_accept names_no_family breaks_constraint nests_same_family terminates_in_accept is_not_in_accept has_no_block
    is_still_nested aborts_main moves_back is_too_late makes_too_many_tasks makes_too_many_slots is_too_deep
complete_causes journal by =
    simp or-false refl

-- an abort
pub abort_causes : (journal : List Event) (by : TaskNo) (tasks : List TaskNo)
    → refusal journal (Abort by tasks)
    ≡ first_cause (cause (not (has_task journal by.0) || list_any (λ (t : TaskNo). not (has_task journal t.0)) tasks) UnknownTask
    ∷ cause (not (is_running journal by.0)) NotRunning
    ∷ cause (eqb (length tasks) 0) EmptyList
    ∷ cause (lists_task 0 tasks) MainTask
    ∷ cause (is_full journal) JournalFull
    ∷ [])
unfolding refusal causes first_cause names_unknown_task asker named_tasks asker_not_running is_during_activation is_not_activating is_not_your_master
    has_empty_list is_not_your_task has_no_accept names_no_family breaks_constraint nests_same_family terminates_in_accept is_not_in_accept has_no_block
    is_still_nested aborts_main moves_back is_too_late makes_too_many_tasks makes_too_many_slots is_too_deep
abort_causes journal by tasks =
    refl

-- a move of the moment
pub tick_causes : (journal : List Event) (now : ℤ)
    → refusal journal (Tick now)
    ≡ first_cause (cause (int_lt now (moment journal)) MomentBack
    ∷ cause (int_lt LAST_MOMENT now) MomentTooLarge
    ∷ cause (is_full journal) JournalFull
    ∷ [])
unfolding refusal causes first_cause names_unknown_task asker named_tasks asker_not_running is_during_activation is_not_activating is_not_your_master
    has_empty_list is_not_your_task has_no_accept names_no_family breaks_constraint nests_same_family terminates_in_accept is_not_in_accept has_no_block
    is_still_nested aborts_main moves_back is_too_late makes_too_many_tasks makes_too_many_slots is_too_deep
tick_causes journal now =
    refl
