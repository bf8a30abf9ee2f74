-- What openings, starts, calls, waits, delays, closes and ticks add.
use Rattle.std.proofs.Common.{◌≡◌, ℕ, ℤ, true, Option, None, List, ◌∷◌, sym, refl, ap, ◌∙◌, subst, inl, inr}
use Rattle.std.proofs.lemmas.Bool.{false≢true}
use Rattle.std.proofs.lemmas.Option.{none-some, same_Some}
use Rattle.ada_events.specs.declared.event.Event.{Event}
use Rattle.ada_events.specs.declared.event.Event.TheVariants as event
use Rattle.ada_events.specs.declared.event.EventTail.{EventTail}
use Rattle.ada_events.specs.declared.names.TaskNo.{TaskNo}
use Rattle.ada_events.specs.declared.names.Master.{Master}
use Rattle.ada_events.specs.declared.names.Entry.{Entry}
use Rattle.ada_events.specs.declared.names.Choice.{Choice}
use Rattle.ada_events.specs.declared.names.Patience.{Patience}
use Rattle.ada_events.specs.Search.{is_number}
use Rattle.ada_events.specs.Says.{Call, Wait, Closing, call_in, wait_in, delay_in, start_in, closing_in, released_in, completed_in, gone_in, quit_in}
use Rattle.ada_events.specs.Says.{aborted_in, elaborated_in, failed_in, creation_in, moment_in, meeting_in}
use Rattle.ada_events.specs.Masters.{depends_on}
use Rattle.ada_events.specs.Termination.{is_open_terminate}
use Rattle.ada_events.specs.Lawful.{IsLawful}
use Rattle.ada_laws.specs.Suspension.{IsSuspendedAt}
use Rattle.ada_step_laws.specs.declared.row.Row.{Row}
use Rattle.ada_step_laws.specs.declared.row.Row.TheVariants.{Halting, Failing, Meeting, Cancelling, Passing, Waking, Activating, QuittingBlock, Leaving}
use Rattle.ada_events.specs.Tasks.{moment}
use Rattle.ada_step_laws.specs.TouchedKeys.{is_uncallable}
use Rattle.ada_step_laws.proofs.changing.Calling.{same_abnormal}
use Rattle.ada_step_laws.proofs.changing.Holding.{IsQuiet, quiet_ends, quiet_ended}
use Rattle.ada_events.specs.Waits.{way_of}
use Rattle.ada_step_laws.specs.Kinds.{itself, is_immediate, IsUnstartedIn, ComesDue, OfStart, OfCall, OfWait, OfDelay, OfClose, OfTick}
use Rattle.ada_step_laws.specs.Kinds.OfStart.{is_over}
use Rattle.ada_step_laws.specs.Kinds.OfCall.{fails, is_cancelled, is_taken}
use Rattle.ada_step_laws.specs.Kinds.OfWait.{takes, passes, quits}
use Rattle.ada_step_laws.specs.Kinds.OfDelay.{wakes}
use Rattle.ada_step_laws.specs.Kinds.OfClose.{leaves, quits as quits_itself, abandons}
use Rattle.ada_step_laws.specs.Kinds.OfTick.{comes_due}
use Rattle.ada_step_laws.proofs.newly.Completing.{IsClosed}
use Rattle.ada_step_laws.proofs.newly.Readying.{IsUnqueued}
use Rattle.ada_step_laws.proofs.newly.Refining.{says_row, Key}
use Rattle.ada_step_laws.proofs.newly.QuietEvents.{QuietKey, quietly}
use Rattle.ada_step_laws.proofs.newly.QuietEvents.QuietKey.{at_own, frees_caller, calls_waiting, brings_moment, closes_around, closes_block, waits_open}
use Rattle.ada_step_laws.proofs.newly.QuietEvents.QuietKey.{empties_queue}

-- nothing leaves a queue where nothing is released or met and nobody ends
pub kept_queued : (event : Event) (before : List Event) (v : ℕ) → IsQuiet event → released_in event ≡ None → meeting_in event ≡ None → IsUnqueued event before v
    → ⊥
kept_queued event before v quiet releases meeting left =
    elim (left.why) [
      | inl released ↦ false≢true (sym (ap (is_number left.position) releases) ∙ released)
      | inr other ↦
          elim other [
            | inl ended ↦ false≢true (sym (quiet_ends event before left.call.by quiet) ∙ ended)
            | inr met ↦ false≢true (rw meeting at met)
          ]
    ]

-- an opening adds nothing
abbrev opens : TaskNo → Master → Event
opens by under = event.Opened by under

opens_quiet : (by : TaskNo) (under : Master) → IsQuiet (opens by under)
unfolding completed_in gone_in quit_in aborted_in elaborated_in failed_in creation_in
opens_quiet by under = record { completes = refl; goes = refl; quits = refl; aborts = refl; elaborates = refl; fails = refl; makes = refl }

opens_own : (by : TaskNo) (under : Master) (before : List Event) (row : Row) → says_row before row (opens by under) ≡ true → ⊥
unfolding call_in wait_in delay_in start_in closing_in
opens_own by under before Halting says = false≢true says
opens_own by under before _ says = false≢true says

opened_quietly : (by : TaskNo) (under : Master) (before : List Event) (row : Row) (key : ℕ) → QuietKey (opens by under) before row key → ⊥
unfolding call_in wait_in closing_in released_in moment_in meeting_in
opened_quietly by under before row key (at_own same says) = opens_own by under before row says
opened_quietly by under before row key (frees_caller u p call released at is abnormal) = none-some p released
opened_quietly by under before row key (calls_waiting call p says waits) = none-some call says
opened_quietly by under before row key (brings_moment now same p says comes) = none-some now says
opened_quietly by under before row key (closes_around u p closed left) = none-some closed.closing closed.says
opened_quietly by under before row key (closes_block p closed) = none-some closed.closing closed.says
opened_quietly by under before row key (waits_open m v waits depends) = none-some waits.wait waits.says
opened_quietly by under before row key (empties_queue m v left ready depends) = kept_queued (opens by under) before v (opens_quiet by under) refl refl left

pub opening_adds : (by : TaskNo) (under : Master) (before : List Event) (row : Row) (key : ℕ) → IsLawful (opens by under ∷ before)
    → Key (opens by under) before row key → ⊥
opening_adds by under before row key lawful touched =
    opened_quietly by under before row key (quietly (opens by under) before row key lawful (opens_quiet by under) touched)

-- a start adds itself
abbrev starts : TaskNo → List TaskNo → Event
starts by tasks = event.Started by tasks

starts_quiet : (by : TaskNo) (tasks : List TaskNo) → IsQuiet (starts by tasks)
unfolding completed_in gone_in quit_in aborted_in elaborated_in failed_in creation_in
starts_quiet by tasks = record { completes = refl; goes = refl; quits = refl; aborts = refl; elaborates = refl; fails = refl; makes = refl }

starts_own : (by : TaskNo) (tasks : List TaskNo) (before : List Event) (row : Row) → says_row before row (starts by tasks) ≡ true
    → OfStart before row (itself before)
unfolding call_in wait_in delay_in start_in closing_in
starts_own by tasks before Activating says = is_over
starts_own by tasks before _ says = absurd (false≢true says)

started_quietly : (by : TaskNo) (tasks : List TaskNo) (before : List Event) (row : Row) (key : ℕ) → QuietKey (starts by tasks) before row key
    → OfStart before row key
unfolding call_in wait_in closing_in released_in moment_in meeting_in
started_quietly by tasks before row key (at_own same says) = starts_own by tasks before row says
started_quietly by tasks before row key (frees_caller u p call released at is abnormal) = absurd (none-some p released)
started_quietly by tasks before row key (calls_waiting call p says waits) = absurd (none-some call says)
started_quietly by tasks before row key (brings_moment now same p says comes) = absurd (none-some now says)
started_quietly by tasks before row key (closes_around u p closed left) = absurd (none-some closed.closing closed.says)
started_quietly by tasks before row key (closes_block p closed) = absurd (none-some closed.closing closed.says)
started_quietly by tasks before row key (waits_open m v waits depends) = absurd (none-some waits.wait waits.says)
started_quietly by tasks before row key (empties_queue m v left ready depends) =
    absurd (kept_queued (starts by tasks) before v (starts_quiet by tasks) refl refl left)

pub start_adds : (by : TaskNo) (tasks : List TaskNo) (before : List Event) (row : Row) (key : ℕ) → IsLawful (starts by tasks ∷ before)
    → Key (starts by tasks) before row key → OfStart before row key
start_adds by tasks before row key lawful touched =
    started_quietly by tasks before row key (quietly (starts by tasks) before row key lawful (starts_quiet by tasks) touched)

-- a call adds itself, and the wait at which its callee is suspended
abbrev asks : TaskNo → TaskNo → Entry → Patience → Option ℤ → Event
asks by callee entry patience due = event.Called by callee entry patience due

asks_quiet : (by callee : TaskNo) (entry : Entry) (patience : Patience) (due : Option ℤ) → IsQuiet (asks by callee entry patience due)
unfolding completed_in gone_in quit_in aborted_in elaborated_in failed_in creation_in
asks_quiet by callee entry patience due = record { completes = refl; goes = refl; quits = refl; aborts = refl; elaborates = refl; fails = refl; makes = refl }

same_lost : (by callee : TaskNo) (entry : Entry) (patience : Patience) (due : Option ℤ) (before : List Event) (u : ℕ)
    → is_uncallable (asks by callee entry patience due ∷ before) u ≡ is_uncallable before u
same_lost by callee entry patience due before u =
    let quiet = asks_quiet by callee entry patience due in
    rw (quiet_ended (asks by callee entry patience due) before u quiet, same_abnormal (asks by callee entry patience due) before u quiet) refl

asks_own : (by callee : TaskNo) (entry : Entry) (patience : Patience) (due : Option ℤ) (before : List Event) (row : Row)
    → says_row before row (asks by callee entry patience due) ≡ true → OfCall before callee.0 (is_immediate before patience due) row (itself before)
unfolding call_in wait_in delay_in start_in closing_in moment moment_in
asks_own by callee entry patience due before Failing says = fails (sym (same_lost by callee entry patience due before callee.0) ∙ says)
asks_own by callee entry patience due before Cancelling says = is_cancelled says
asks_own by callee entry patience due before _ says = absurd (false≢true says)

asked_quietly : (by callee : TaskNo) (entry : Entry) (patience : Patience) (due : Option ℤ) (before : List Event) (row : Row) (key : ℕ)
    → QuietKey (asks by callee entry patience due) before row key → OfCall before callee.0 (is_immediate before patience due) row key
unfolding call_in wait_in closing_in released_in moment_in meeting_in
asked_quietly by callee entry patience due before row key (at_own same says) = asks_own by callee entry patience due before row says
asked_quietly by callee entry patience due before row key (frees_caller u p call released at is abnormal) = absurd (none-some p released)
asked_quietly by callee entry patience due before row key (calls_waiting call p says waits) =
    is_taken p (subst (λ (n : ℕ). IsSuspendedAt before n p) (ap (λ (c : Call). c.callee) (sym (same_Some _ call says))) waits)
asked_quietly by callee entry patience due before row key (brings_moment now same p says comes) = absurd (none-some now says)
asked_quietly by callee entry patience due before row key (closes_around u p closed left) = absurd (none-some closed.closing closed.says)
asked_quietly by callee entry patience due before row key (closes_block p closed) = absurd (none-some closed.closing closed.says)
asked_quietly by callee entry patience due before row key (waits_open m v waits depends) = absurd (none-some waits.wait waits.says)
asked_quietly by callee entry patience due before row key (empties_queue m v left ready depends) =
    absurd (kept_queued (asks by callee entry patience due) before v (asks_quiet by callee entry patience due) refl refl left)

pub call_adds : (by callee : TaskNo) (entry : Entry) (patience : Patience) (due : Option ℤ) (before : List Event) (row : Row) (key : ℕ)
    → IsLawful (asks by callee entry patience due ∷ before) → Key (asks by callee entry patience due) before row key
    → OfCall before callee.0 (is_immediate before patience due) row key
call_adds by callee entry patience due before row key lawful touched =
    asked_quietly by callee entry patience due before row key
    (quietly (asks by callee entry patience due) before row key lawful (asks_quiet by callee entry patience due) touched)

-- a wait adds itself, and with an open terminate alternative the masters on which its task depends
abbrev waits_for : TaskNo → ℕ → List Choice → EventTail → Event
waits_for by pick choices tail = event.Waiting by pick choices tail

waits_quiet : (by : TaskNo) (pick : ℕ) (choices : List Choice) (tail : EventTail) → IsQuiet (waits_for by pick choices tail)
unfolding completed_in gone_in quit_in aborted_in elaborated_in failed_in creation_in
waits_quiet by pick choices tail = record { completes = refl; goes = refl; quits = refl; aborts = refl; elaborates = refl; fails = refl; makes = refl }

waits_own : (by : TaskNo) (pick : ℕ) (choices : List Choice) (tail : EventTail) (before : List Event) (row : Row)
    → says_row before row (waits_for by pick choices tail) ≡ true → OfWait before by.0 (way_of (moment before) choices pick tail) tail row (itself before)
unfolding call_in wait_in delay_in start_in closing_in moment moment_in
waits_own by pick choices tail before Meeting says = takes
waits_own by pick choices tail before Passing says = passes says
waits_own by pick choices tail before _ says = absurd (false≢true says)

waited_quietly : (by : TaskNo) (pick : ℕ) (choices : List Choice) (tail : EventTail) (before : List Event) (row : Row) (key : ℕ)
    → QuietKey (waits_for by pick choices tail) before row key → OfWait before by.0 (way_of (moment before) choices pick tail) tail row key
unfolding call_in wait_in closing_in released_in moment_in meeting_in
waited_quietly by pick choices tail before row key (at_own same says) = waits_own by pick choices tail before row says
waited_quietly by pick choices tail before row key (frees_caller u p call released at is abnormal) = absurd (none-some p released)
waited_quietly by pick choices tail before row key (calls_waiting call p says waits) = absurd (none-some call says)
waited_quietly by pick choices tail before row key (brings_moment now same p says comes) = absurd (none-some now says)
waited_quietly by pick choices tail before row key (closes_around u p closed left) = absurd (none-some closed.closing closed.says)
waited_quietly by pick choices tail before row key (closes_block p closed) = absurd (none-some closed.closing closed.says)
waited_quietly by pick choices tail before row key (waits_open m v waits depends) =
    let same = same_Some _ waits.wait waits.says in
    quits m (ap (λ (w : Wait). is_open_terminate w.tail) same ∙ waits.open_end)
    (subst (λ (n : ℕ). depends_on before n m ≡ true) (sym waits.by ∙ ap (λ (w : Wait). w.by) (sym same)) depends)
waited_quietly by pick choices tail before row key (empties_queue m v left ready depends) =
    absurd (kept_queued (waits_for by pick choices tail) before v (waits_quiet by pick choices tail) refl refl left)

pub wait_adds : (by : TaskNo) (pick : ℕ) (choices : List Choice) (tail : EventTail) (before : List Event) (row : Row) (key : ℕ)
    → IsLawful (waits_for by pick choices tail ∷ before) → Key (waits_for by pick choices tail) before row key
    → OfWait before by.0 (way_of (moment before) choices pick tail) tail row key
wait_adds by pick choices tail before row key lawful touched =
    waited_quietly by pick choices tail before row key
    (quietly (waits_for by pick choices tail) before row key lawful (waits_quiet by pick choices tail) touched)

-- a delay adds itself
abbrev delays : TaskNo → ℤ → Event
delays by until = event.Paused by until

delays_quiet : (by : TaskNo) (until : ℤ) → IsQuiet (delays by until)
unfolding completed_in gone_in quit_in aborted_in elaborated_in failed_in creation_in
delays_quiet by until = record { completes = refl; goes = refl; quits = refl; aborts = refl; elaborates = refl; fails = refl; makes = refl }

delays_own : (by : TaskNo) (until : ℤ) (before : List Event) (row : Row) → says_row before row (delays by until) ≡ true → OfDelay before row (itself before)
unfolding call_in wait_in delay_in start_in closing_in
delays_own by until before Waking says = wakes
delays_own by until before _ says = absurd (false≢true says)

delayed_quietly : (by : TaskNo) (until : ℤ) (before : List Event) (row : Row) (key : ℕ) → QuietKey (delays by until) before row key → OfDelay before row key
unfolding call_in wait_in closing_in released_in moment_in meeting_in
delayed_quietly by until before row key (at_own same says) = delays_own by until before row says
delayed_quietly by until before row key (frees_caller u p call released at is abnormal) = absurd (none-some p released)
delayed_quietly by until before row key (calls_waiting call p says waits) = absurd (none-some call says)
delayed_quietly by until before row key (brings_moment now same p says comes) = absurd (none-some now says)
delayed_quietly by until before row key (closes_around u p closed left) = absurd (none-some closed.closing closed.says)
delayed_quietly by until before row key (closes_block p closed) = absurd (none-some closed.closing closed.says)
delayed_quietly by until before row key (waits_open m v waits depends) = absurd (none-some waits.wait waits.says)
delayed_quietly by until before row key (empties_queue m v left ready depends) =
    absurd (kept_queued (delays by until) before v (delays_quiet by until) refl refl left)

pub delay_adds : (by : TaskNo) (until : ℤ) (before : List Event) (row : Row) (key : ℕ) → IsLawful (delays by until ∷ before)
    → Key (delays by until) before row key → OfDelay before row key
delay_adds by until before row key lawful touched =
    delayed_quietly by until before row key (quietly (delays by until) before row key lawful (delays_quiet by until) touched)

-- a close adds itself, its block, and the tasks made within it that were never started
abbrev shuts : TaskNo → ℕ → Event
shuts by block = event.Closed by block

shuts_quiet : (by : TaskNo) (block : ℕ) → IsQuiet (shuts by block)
unfolding completed_in gone_in quit_in aborted_in elaborated_in failed_in creation_in
shuts_quiet by block = record { completes = refl; goes = refl; quits = refl; aborts = refl; elaborates = refl; fails = refl; makes = refl }

shuts_own : (by : TaskNo) (block : ℕ) (before : List Event) (row : Row) → says_row before row (shuts by block) ≡ true → OfClose before block row (itself before)
unfolding call_in wait_in delay_in start_in closing_in
shuts_own by block before Leaving says = leaves
shuts_own by block before _ says = absurd (false≢true says)

shuts_it : (by : TaskNo) (block p : ℕ) → IsClosed (shuts by block) p → p ≡ block
unfolding closing_in
shuts_it by block p closed = sym closed.of ∙ ap (λ (c : Closing). c.block) (sym (same_Some _ closed.closing closed.says))

shut_quietly : (by : TaskNo) (block : ℕ) (before : List Event) (row : Row) (key : ℕ) → QuietKey (shuts by block) before row key → OfClose before block row key
unfolding call_in wait_in released_in moment_in meeting_in
shut_quietly by block before row key (at_own same says) = shuts_own by block before row says
shut_quietly by block before row key (frees_caller u p call released at is abnormal) = absurd (none-some p released)
shut_quietly by block before row key (calls_waiting call p says waits) = absurd (none-some call says)
shut_quietly by block before row key (brings_moment now same p says comes) = absurd (none-some now says)
shut_quietly by block before row key (closes_around u p closed left) =
    abandons u (subst (λ (n : ℕ). IsUnstartedIn before u n) (shuts_it by block p closed) left)
shut_quietly by block before row key (closes_block p closed) =
    subst (λ (n : ℕ). OfClose before block QuittingBlock n) (sym (shuts_it by block p closed)) quits_itself
shut_quietly by block before row key (waits_open m v waits depends) = absurd (none-some waits.wait waits.says)
shut_quietly by block before row key (empties_queue m v left ready depends) =
    absurd (kept_queued (shuts by block) before v (shuts_quiet by block) refl refl left)

pub close_adds : (by : TaskNo) (block : ℕ) (before : List Event) (row : Row) (key : ℕ) → IsLawful (shuts by block ∷ before)
    → Key (shuts by block) before row key → OfClose before block row key
close_adds by block before row key lawful touched =
    shut_quietly by block before row key (quietly (shuts by block) before row key lawful (shuts_quiet by block) touched)

-- a tick adds what comes due
abbrev ticks : ℤ → Event
ticks to = event.Ticked to

ticks_quiet : (to : ℤ) → IsQuiet (ticks to)
unfolding completed_in gone_in quit_in aborted_in elaborated_in failed_in creation_in
ticks_quiet to = record { completes = refl; goes = refl; quits = refl; aborts = refl; elaborates = refl; fails = refl; makes = refl }

ticks_own : (to : ℤ) (before : List Event) (row : Row) → says_row before row (ticks to) ≡ true → ⊥
unfolding call_in wait_in delay_in start_in closing_in
ticks_own to before Halting says = false≢true says
ticks_own to before _ says = false≢true says

ticked_quietly : (to : ℤ) (before : List Event) (row : Row) (key : ℕ) → QuietKey (ticks to) before row key → OfTick before to row key
unfolding call_in wait_in closing_in released_in moment_in meeting_in
ticked_quietly to before row key (at_own same says) = absurd (ticks_own to before row says)
ticked_quietly to before row key (frees_caller u p call released at is abnormal) = absurd (none-some p released)
ticked_quietly to before row key (calls_waiting call p says waits) = absurd (none-some call says)
ticked_quietly to before row key (brings_moment now same p says comes) =
    comes_due row p (subst (λ (m : ℤ). ComesDue before m row p) (sym (same_Some to now says)) comes)
ticked_quietly to before row key (closes_around u p closed left) = absurd (none-some closed.closing closed.says)
ticked_quietly to before row key (closes_block p closed) = absurd (none-some closed.closing closed.says)
ticked_quietly to before row key (waits_open m v waits depends) = absurd (none-some waits.wait waits.says)
ticked_quietly to before row key (empties_queue m v left ready depends) = absurd (kept_queued (ticks to) before v (ticks_quiet to) refl refl left)

pub tick_adds : (to : ℤ) (before : List Event) (row : Row) (key : ℕ) → IsLawful (ticks to ∷ before) → Key (ticks to) before row key → OfTick before to row key
tick_adds to before row key lawful touched = ticked_quietly to before row key (quietly (ticks to) before row key lawful (ticks_quiet to) touched)
