-- The causes for which a request is refused, each with its condition. They are checked in their order,
-- and the first that applies is the answer.
use Rattle.std.specs.Prelude.{ℕ, Bool, true, false, not, ◌==◌, ◌&&◌, ◌||◌, if◌then◌else◌, Option, Some, None, List, [], ◌∷◌, ◌++◌, length, slice_get}
use Rattle.std.specs.Option.{option_map_or, is_none}
use Rattle.std.specs.List.{list_any}
use Rattle.ada_events.specs.declared.event.Event.{Event}
use Rattle.ada_events.specs.declared.request.Request.{Request}
use Rattle.ada_events.specs.declared.request.Request.TheVariants.{Create, Activate, Elaborated, Call, Wait, End, Close, Complete, Abort}
use Rattle.ada_events.specs.declared.request.Tail.TheVariants.{Delays, Terminate}
use Rattle.ada_events.specs.declared.refusal.Refusal.{Refusal}
use Rattle.ada_events.specs.declared.refusal.Refusal.TheVariants.{UnknownTask, NotRunning, DuringActivation, NotActivating, NotYourMaster, EmptyList}
use Rattle.ada_events.specs.declared.refusal.Refusal.TheVariants.{NotYourTask, NoAccept, NoSuchFamily, ConstraintError, SameFamilyNested, TerminateInAccept}
use Rattle.ada_events.specs.declared.refusal.Refusal.TheVariants.{NotInAccept, NoBlock, StillNested, MainTask, MomentBack, MomentTooLarge, TooManyTasks}
use Rattle.ada_events.specs.declared.refusal.Refusal.TheVariants.{TooManySlots, TooDeep, JournalFull}
use Rattle.ada_events.specs.declared.names.TaskNo.{TaskNo}
use Rattle.ada_events.specs.declared.names.Choice.{Choice}
use Rattle.ada_events.specs.declared.names.Entry.{Entry}
use Rattle.ada_events.specs.declared.names.Family.{Family}
use Rattle.ada_events.specs.declared.names.Member.{Member}
use Rattle.ada_events.specs.declared.names.Member.TheVariants.{Block, Rendezvous}
use Rattle.ada_events.specs.Search.{is_some_and}
use Rattle.ada_events.specs.Says.{Creation, call_at}
use Rattle.ada_events.specs.Says as says
use Rattle.ada_events.specs.Entries.{is_in_range}
use Rattle.ada_events.specs.Tasks.{has_task, creation_of, families_of}
use Rattle.ada_events.specs.Masters.{reaches}
use Rattle.ada_events.specs.Phases.{lists_task, has_start, is_elaborated, is_running}
use Rattle.ada_events.specs.Nests.{nest, innermost, frame}
use Rattle.ada_events.specs.Asks.{asker, named_tasks}
use Rattle.ada_events.specs.Limits.{moves_back, is_too_late, makes_too_many_tasks, makes_too_many_slots, is_too_deep, is_full}

-- a task that the request names doesn't exist
unfoldable pub names_unknown_task : List Event → Request → Bool
names_unknown_task journal request =
    is_some_and (asker request) (λ t. not (has_task journal t))
    || list_any (λ (t : TaskNo). not (has_task journal t.0)) (named_tasks request)

-- the asking task isn't running
unfoldable pub asker_not_running : List Event → Request → Bool
asker_not_running journal request = is_some_and (asker request) (λ t. not (is_running journal t))

-- a wait, end or completion by a task that isn't elaborated (9.3)
unfoldable pub is_during_activation : List Event → Request → Bool
is_during_activation journal (Wait by choices tail pick) = not (is_elaborated journal by.0)
is_during_activation journal (End by raised) = not (is_elaborated journal by.0)
is_during_activation journal (Complete by) = not (is_elaborated journal by.0)
is_during_activation journal _ = false

-- the end of an activation by a task that is elaborated already (9.3)
unfoldable pub is_not_activating : List Event → Request → Bool
is_not_activating journal (Elaborated by ok) = is_elaborated journal by.0
is_not_activating journal _ = false

-- a creation under a master that is neither the task's frame nor reached from it (9.4)
unfoldable pub is_not_your_master : List Event → Request → Bool
is_not_your_master journal (Create by master families) = not (reaches journal (frame journal by.0) master)
is_not_your_master journal _ = false

-- nothing to activate, to abort, or to delay for
unfoldable pub has_empty_list : Request → Bool
has_empty_list (Activate by tasks) = length tasks == 0
has_empty_list (Abort by tasks) = length tasks == 0
has_empty_list (Wait by choices (Delays pauses) pick) = length pauses == 0
has_empty_list _ = false

-- a task may activate another (9.3): it made it, and no start names it
unfoldable pub may_activate : List Event → ℕ → ℕ → Bool
may_activate journal by task =
    is_some_and (creation_of journal task) (λ (c : Creation). c.by == by) && not (has_start journal task)

-- a task stands twice in a list
unfoldable pub has_double_task : List TaskNo → Bool
has_double_task [] = false
has_double_task (task ∷ rest) = lists_task task.0 rest || has_double_task rest

-- an activation of a task that isn't the asking task's to activate, or that stands twice (9.3)
unfoldable pub is_not_your_task : List Event → Request → Bool
is_not_your_task journal (Activate by tasks) =
    list_any (λ (t : TaskNo). not (may_activate journal by.0 t.0)) tasks || has_double_task tasks
is_not_your_task journal _ = false

-- a wait without accept alternatives (9.7.1)
unfoldable pub has_no_accept : Request → Bool
has_no_accept (Wait by choices tail pick) = length choices == 0
has_no_accept _ = false

-- the family of an entry isn't declared by the task (9.5)
unfoldable pub lacks_family : List Event → ℕ → Entry → Bool
lacks_family journal task entry = is_none (slice_get (families_of journal task) entry.family)

-- a call of, or a choice for, a family that isn't declared
unfoldable pub names_no_family : List Event → Request → Bool
names_no_family journal (Call by callee entry patience) = lacks_family journal callee.0 entry
names_no_family journal (Wait by choices tail pick) = list_any (λ (c : Choice). lacks_family journal by.0 c.entry) choices
names_no_family journal _ = false

-- the index of an entry lies outside its family's range (9.5)
unfoldable pub is_outside : List Event → ℕ → Entry → Bool
is_outside journal task entry =
    is_some_and (slice_get (families_of journal task) entry.family) (λ (f : Family). not (is_in_range f entry.index))

-- the index of a call, or of an open choice, lies outside its family's range
unfoldable pub breaks_constraint : List Event → Request → Bool
breaks_constraint journal (Call by callee entry patience) = is_outside journal callee.0 entry
breaks_constraint journal (Wait by choices tail pick) = list_any (λ (c : Choice). c.guard && is_outside journal by.0 c.entry) choices
breaks_constraint journal _ = false

-- the member is a rendezvous
abbrev pub is_rendezvous : Member → Bool
is_rendezvous (Rendezvous call) = true
is_rendezvous (Block p) = false

-- the member is a rendezvous for a family of entries
unfoldable pub is_rendezvous_for : List Event → ℕ → Member → Bool
is_rendezvous_for journal family (Rendezvous call) =
    is_some_and (call_at journal call) (λ (c : says.Call). c.entry.family == family)
is_rendezvous_for journal family (Block p) = false

-- a choice, open or closed, for the family of a rendezvous in the task's nest (9.5)
unfoldable pub nests_same_family : List Event → Request → Bool
nests_same_family journal (Wait by choices tail pick) =
    list_any (λ (c : Choice). list_any (is_rendezvous_for journal c.entry.family) (nest journal by.0)) choices
nests_same_family journal _ = false

-- a terminate alternative, open or closed, within a rendezvous
unfoldable pub terminates_in_accept : List Event → Request → Bool
terminates_in_accept journal (Wait by choices (Terminate guard) pick) = list_any is_rendezvous (nest journal by.0)
terminates_in_accept journal _ = false

-- the end of an accept, where the innermost of the nest isn't a rendezvous
unfoldable pub is_not_in_accept : List Event → Request → Bool
is_not_in_accept journal (End by raised) = not (is_some_and (innermost (nest journal by.0)) is_rendezvous)
is_not_in_accept journal _ = false

-- a close, where the innermost of the nest isn't a block
unfoldable pub has_no_block : List Event → Request → Bool
has_no_block journal (Close by) = option_map_or is_rendezvous (innermost (nest journal by.0)) true
has_no_block journal _ = false

-- a completion, or the end of an activation, within a block or a rendezvous
unfoldable pub is_still_nested : List Event → Request → Bool
is_still_nested journal (Complete by) = not (length (nest journal by.0) == 0)
is_still_nested journal (Elaborated by ok) = not (length (nest journal by.0) == 0)
is_still_nested journal _ = false

-- an abort of the main program
unfoldable pub aborts_main : Request → Bool
aborts_main (Abort by tasks) = lists_task 0 tasks
aborts_main _ = false

-- a cause with its condition
pub record Cause : Type 0 where
  pub applies : Bool
  pub name : Refusal

abbrev pub cause : Bool → Refusal → Cause
cause applies name = record { applies = applies; name = name }

-- the name of the first cause that applies
unfoldable pub first_cause : List Cause → Option Refusal
first_cause [] = None
first_cause (c ∷ rest) = if c.applies then Some c.name else first_cause rest

-- the causes that have to do with the tasks that are named, and with empty lists
abbrev pub causes_by_name : List Event → Request → List Cause
causes_by_name journal request =
    cause (names_unknown_task journal request) UnknownTask
    ∷ cause (asker_not_running journal request) NotRunning
    ∷ cause (is_during_activation journal request) DuringActivation
    ∷ cause (is_not_activating journal request) NotActivating
    ∷ cause (is_not_your_master journal request) NotYourMaster
    ∷ cause (has_empty_list request) EmptyList
    ∷ []

-- those that have to do with activation and entries
abbrev pub causes_by_entry : List Event → Request → List Cause
causes_by_entry journal request =
    cause (is_not_your_task journal request) NotYourTask
    ∷ cause (has_no_accept request) NoAccept
    ∷ cause (names_no_family journal request) NoSuchFamily
    ∷ cause (breaks_constraint journal request) ConstraintError
    ∷ []

-- those that have to do with the asking task's nest
abbrev pub causes_by_nest : List Event → Request → List Cause
causes_by_nest journal request =
    cause (nests_same_family journal request) SameFamilyNested
    ∷ cause (terminates_in_accept journal request) TerminateInAccept
    ∷ cause (is_not_in_accept journal request) NotInAccept
    ∷ cause (has_no_block journal request) NoBlock
    ∷ cause (is_still_nested journal request) StillNested
    ∷ []

-- those that have to do with the main program, the moment and the limits
abbrev pub causes_by_limit : List Event → Request → List Cause
causes_by_limit journal request =
    cause (aborts_main request) MainTask
    ∷ cause (moves_back journal request) MomentBack
    ∷ cause (is_too_late journal request) MomentTooLarge
    ∷ cause (makes_too_many_tasks journal request) TooManyTasks
    ∷ cause (makes_too_many_slots journal request) TooManySlots
    ∷ cause (is_too_deep journal request) TooDeep
    ∷ cause (is_full journal) JournalFull
    ∷ []

-- the causes in their order
unfoldable pub causes : List Event → Request → List Cause
causes journal request =
    causes_by_name journal request ++ causes_by_entry journal request ++ causes_by_nest journal request ++ causes_by_limit journal request

-- the cause for which a request is refused, or none
unfoldable pub refusal : List Event → Request → Option Refusal
refusal journal request = first_cause (causes journal request)
