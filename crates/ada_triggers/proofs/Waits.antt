-- What a wait adds to an agenda.
use Rattle.std.proofs.Common.{◌≡◌, ℕ, ℤ, ◌+◌, Bool, true, false, Option, List, Some, None, [], ◌∷◌, length, sym, refl, ◌∙◌, inl, inr}
use Rattle.std.specs.Option.{is_some}
use Rattle.std.proofs.lemmas.Bool.{true≢false, false_from_ne_true}
use Rattle.ada_events.specs.declared.event.Event.{Event}
use Rattle.ada_events.specs.declared.event.Event.TheVariants.{Waiting}
use Rattle.ada_events.specs.declared.event.EventTail.{EventTail}
use Rattle.ada_events.specs.declared.event.EventTail.TheVariants.{Nothing}
use Rattle.ada_events.specs.declared.event.Way.{Way}
use Rattle.ada_events.specs.declared.names.TaskNo.{TaskNo}
use Rattle.ada_events.specs.declared.names.Choice.{Choice}
use Rattle.ada_events.specs.declared.names.Entry.{Entry}
use Rattle.ada_events.specs.Says.{held_in, completed_in}
use Rattle.ada_events.specs.Tasks.{moment}
use Rattle.ada_events.specs.Waits.{way_of}
use Rattle.ada_events.specs.Phases.{is_terminated}
use Rattle.ada_events.specs.Termination.{is_open_terminate}
use Rattle.ada_events.specs.Lawful.{IsLawful}
use Rattle.ada_laws.proofs.searching.Growing.{has_ended-terminated}
use Rattle.ada_step_laws.specs.Rows.{step_at}
use Rattle.ada_step_laws.specs.declared.row.Row.{Row}
use Rattle.ada_step_laws.specs.declared.row.Row.TheVariants.{Meeting, Passing}
use Rattle.ada_step_laws.proofs.changing.Holding.{holder_ran}
use Rattle.ada_agenda.specs.Keeping.{Puts, When, AsKey, KeepsUp}
use Rattle.ada_agenda.specs.internal.Keeping.{Both}
use Rattle.ada_step_laws.specs.Kinds.{itself as own, quitting_row, quitting_key, OfWait}
use Rattle.ada_step_laws.specs.Kinds.OfWait.{takes, passes, quits as wait_quits}
use Rattle.ada_agenda.proofs.Noting.{own_is, noted_giving, both_put, not_put}
use Rattle.ada_triggers.specs.internal.Keys.{AsDependent}
use Rattle.ada_agenda.specs.Keeping.AsKey.{itself}
use Rattle.ada_triggers.specs.internal.Keys.AsHolder.{quits}
use Rattle.ada_agenda.specs.Keeping.When.{holds_so}
use Rattle.ada_triggers.specs.internal.Keys.AsDependent.{through}
use Rattle.ada_triggers.proofs.Giving.{quitter}
use Rattle.ada_triggers.proofs.Ends.{dependent_held}

-- who waits isn't terminated
waiter_held : (by : TaskNo) (pick : ℕ) (choices : List Choice) (tail : EventTail) → held_in (Waiting by pick choices tail) ≡ Some by.0
unfolding held_in
waiter_held by pick choices tail = refl

waiter_completes : (by : TaskNo) (pick : ℕ) (choices : List Choice) (tail : EventTail) → completed_in (Waiting by pick choices tail) ≡ None
unfolding completed_in
waiter_completes by pick choices tail = refl

waiter_live : (event : Event) (before : List Event) (task : ℕ) → IsLawful (event ∷ before) → held_in event ≡ Some task → is_terminated before task ≡ false
waiter_live event before task lawful holds =
    let ran = holder_ran event before task lawful holds in
    false_from_ne_true (is_terminated before task) (λ ended. true≢false (sym (has_ended-terminated before task ended) ∙ ran.1))

-- all that was put for a wait
abbrev pub WaitKeys : List Event → ℕ → ℕ → Bool → Bool → Row → ℕ → Type 0
WaitKeys before by at ends so = Both (Both (AsKey Meeting at) (When ends (AsKey Passing at))) (When so (AsDependent before by))

wait_key : (event step : Event) (before : List Event) (by at : ℕ) (way : Option Way) (ends : Bool) (tail : EventTail) (so : Bool) (row : Row) (key : ℕ)
    → IsLawful before → completed_in event ≡ None → is_terminated before by ≡ false → at ≡ own before → ends ≡ is_some way
    → so ≡ is_open_terminate tail → step_at (event ∷ before) row key ≡ Some step → OfWait before by way tail row key
    → WaitKeys before by at ends so row key
wait_key event step before by at way ends tail so row key lawful none live same told is gives takes = inl (inl (rw same itself))
wait_key event step before by at way ends tail so row key lawful none live same told is gives (passes there) =
    inl (inr (holds_so (told ∙ there) (rw same itself)))
wait_key event step before by at way ends tail so row key lawful none live same told is gives (wait_quits m opened depends) =
    let up = dependent_held before by m lawful live depends in
    inr (holds_so (is ∙ opened) (through up.holder m (quitting_row m) (quitting_key m) live depends up.held (quits m up.held
    (quitter event step before m none gives))))

pub wait_noted : (before : List Event) (old new : List (List ℕ)) (by : TaskNo) (pick : ℕ) (choices : List Choice) (tail : EventTail) (at : ℕ)
    (ends so : Bool) → at ≡ length before + 1 → ends ≡ is_some (way_of (moment before) choices pick tail) → so ≡ is_open_terminate tail
    → Puts old new (WaitKeys before by.0 at ends so) → KeepsUp before (Waiting by pick choices tail) old new
wait_noted before old new by pick choices tail at ends so same told opened puts lawful agenda =
    let event = Waiting by pick choices tail in
    noted_giving event before old new (WaitKeys before by.0 at ends so) lawful agenda puts (λ row key step added gives.
    wait_key event step before by.0 at (way_of (moment before) choices pick tail) ends tail so row key lawful.0 (waiter_completes by pick choices tail)
    (waiter_live event before by.0 lawful (waiter_held by pick choices tail)) (own_is before at same) told opened gives added)

-- who waits at an open accept statement alone doesn't pass
open_waits : (now : ℤ) (pick : ℕ) (entry : Entry) → is_some (way_of now (record { guard = true; entry = entry } ∷ []) pick Nothing) ≡ false
unfolding way_of
open_waits now pick entry = refl

pub accept_noted : (before : List Event) (old new : List (List ℕ)) (by : TaskNo) (pick : ℕ) (entry : Entry) (at : ℕ) → at ≡ length before + 1
    → Puts old new (AsKey Meeting at) → KeepsUp before (Waiting by pick (record { guard = true; entry = entry } ∷ []) Nothing) old new
accept_noted before old new by pick entry at same puts =
    wait_noted before old new by pick (record { guard = true; entry = entry } ∷ []) Nothing at false false same
    (sym (open_waits (moment before) pick entry)) refl
    (both_put old new new _ _ (both_put old new new _ _ puts (not_put new false (AsKey Passing at) refl)) (not_put new false (AsDependent before by.0) refl))
