-- What ends of rendezvous, failures, cancellations and the other releases add.
use Rattle.std.proofs.Common.{◌≡◌, ℕ, Bool, true, false, Some, None, List, ◌∷◌, sym, refl, ap, ◌∙◌, subst, inl, inr}
use Rattle.std.proofs.lemmas.Bool.{false≢true, true≢false}
use Rattle.std.proofs.lemmas.Option.{none-some, same_Some}
use Rattle.ada_events.specs.declared.event.Event.{Event}
use Rattle.ada_events.specs.declared.event.Event.TheVariants as event
use Rattle.ada_events.specs.declared.request.Request.{Request}
use Rattle.ada_events.specs.declared.request.Request.TheVariants as request
use Rattle.ada_events.specs.declared.names.Master.{Master}
use Rattle.ada_events.specs.Search.{event_at}
use Rattle.ada_events.specs.Says.{Call, call_in, wait_in, delay_in, start_in, closing_in, released_in, moment_in, meeting_in}
use Rattle.ada_events.specs.Asks.{asked_event}
use Rattle.ada_events.specs.Masters.{depends_on}
use Rattle.ada_events.specs.Phases.{is_abnormal}
use Rattle.ada_events.specs.Termination.{is_ready_to_quit}
use Rattle.ada_events.specs.Lawful.{IsLawful, MayFollow}
use Rattle.ada_events.specs.Refusals.{refusal}
use Rattle.ada_laws.specs.Calls.{IsCallAt}
use Rattle.ada_laws.proofs.searching.Searching.{is_number-some}
use Rattle.ada_laws.proofs.forced.Rows.{IsRow, forced-row}
use Rattle.ada_laws.proofs.forced.Rows.IsRow.{halts, fails, meets, cancels, passes, wakes, activates, goes, quits, leaves}
use Rattle.ada_step_laws.specs.declared.row.Row.{Row}
use Rattle.ada_step_laws.specs.declared.row.Row.TheVariants.{Halting}
use Rattle.ada_step_laws.proofs.changing.Holding.{quiet_ends}
use Rattle.ada_step_laws.proofs.changing.Saying.{release_only}
use Rattle.ada_step_laws.specs.Kinds.{quitting_row, quitting_key}
use Rattle.ada_step_laws.proofs.newly.Readying.{IsUnqueued}
use Rattle.ada_step_laws.proofs.newly.Refining.{Key}
use Rattle.ada_step_laws.proofs.newly.QuietEvents.{QuietKey, quietly}
use Rattle.ada_step_laws.proofs.newly.QuietEvents.QuietKey.{at_own, frees_caller, calls_waiting, brings_moment, closes_around, closes_block, waits_open}
use Rattle.ada_step_laws.proofs.newly.QuietEvents.QuietKey.{empties_queue}
use Rattle.ada_step_laws.proofs.newly.OwnPositions.{IsSilent, no_own}

-- what a release touches: the caller of a call, and the masters of a task whose queue is emptied
pub data ReleaseKey (event : Event) (before : List Event) (position : ℕ) : Row → ℕ → Type 0 where
  frees : (call : Call) → IsCallAt before call position → is_abnormal before call.by ≡ true → ReleaseKey event before position Halting call.by
  empties : (m : Master) (v : ℕ) → IsUnqueued event before v → is_ready_to_quit (event ∷ before) v ≡ true → depends_on before v m ≡ true
      → ReleaseKey event before position (quitting_row m) (quitting_key m)

-- a release calls, waits for, closes and moves nothing
only_frees : (e : Event) (p : ℕ) → released_in e ≡ Some p → IsSilent e
unfolding released_in call_in wait_in delay_in start_in closing_in moment_in
only_frees (event.Ended by call raised) p says = record { calls = refl; waits = refl; delays = refl; starts = refl; closes = refl; moment = refl }
only_frees (event.Failed call) p says = record { calls = refl; waits = refl; delays = refl; starts = refl; closes = refl; moment = refl }
only_frees (event.Met call wait) p says = record { calls = refl; waits = refl; delays = refl; starts = refl; closes = refl; moment = refl }
only_frees (event.Cancelled call) p says = record { calls = refl; waits = refl; delays = refl; starts = refl; closes = refl; moment = refl }
only_frees (event.Passed wait way) p says = record { calls = refl; waits = refl; delays = refl; starts = refl; closes = refl; moment = refl }
only_frees (event.Woken pause) p says = record { calls = refl; waits = refl; delays = refl; starts = refl; closes = refl; moment = refl }
only_frees (event.Activated start ok) p says = record { calls = refl; waits = refl; delays = refl; starts = refl; closes = refl; moment = refl }
only_frees (event.Left close) p says = record { calls = refl; waits = refl; delays = refl; starts = refl; closes = refl; moment = refl }
only_frees _ p says = absurd (none-some p says)

released_quietly : (e : Event) (before : List Event) (p : ℕ) (row : Row) (key : ℕ) → released_in e ≡ Some p → IsSilent e → QuietKey e before row key
    → ReleaseKey e before p row key
released_quietly e before p row key releases only (at_own same says) = absurd (no_own e before row only says)
released_quietly e before p row key releases only (frees_caller u q call released at is abnormal) =
    let same : q ≡ p = same_Some q p (sym released ∙ releases) in
    subst (λ (n : ℕ). ReleaseKey e before p Halting n) is
    (frees call (subst (λ (n : ℕ). IsCallAt before call n) same at) (subst (λ (n : ℕ). is_abnormal before n ≡ true) (sym is) abnormal))
released_quietly e before p row key releases only (calls_waiting call q says waits) = absurd (none-some call (sym only.calls ∙ says))
released_quietly e before p row key releases only (brings_moment now same q says comes) = absurd (none-some now (sym only.moment ∙ says))
released_quietly e before p row key releases only (closes_around u q closed left) = absurd (none-some closed.closing (sym only.closes ∙ closed.says))
released_quietly e before p row key releases only (closes_block q closed) = absurd (none-some closed.closing (sym only.closes ∙ closed.says))
released_quietly e before p row key releases only (waits_open m v waits depends) = absurd (none-some waits.wait (sym only.waits ∙ waits.says))
released_quietly e before p row key releases only (empties_queue m v left ready depends) = empties m v left ready depends

pub release_key : (e : Event) (before : List Event) (p : ℕ) (row : Row) (key : ℕ) → IsLawful (e ∷ before) → released_in e ≡ Some p → Key e before row key
    → ReleaseKey e before p row key
release_key e before p row key lawful releases touched =
    released_quietly e before p row key releases (only_frees e p releases) (quietly e before row key lawful (release_only e p releases).plain.quiet touched)

-- a call that a release takes out of a queue is the one that it releases, or with which it begins a rendezvous
pub left_position : (e : Event) (before : List Event) (p v : ℕ) → released_in e ≡ Some p → meeting_in e ≡ None → (left : IsUnqueued e before v)
    → left.position ≡ p
left_position e before p v releases meeting left =
    elim (left.why) [
      | inl released ↦ same_Some left.position p (sym (is_number-some left.position (released_in e) released) ∙ releases)
      | inr other ↦
          elim other [
            | inl ended ↦ absurd (false≢true (sym (quiet_ends e before left.call.by (release_only e p releases).plain.quiet) ∙ ended))
            | inr met ↦ absurd (false≢true (rw meeting at met))
          ]
    ]

-- what is said by an event that calls
pub record OnlyCalls (event : Event) : Type 0 where
  pub waits : wait_in event ≡ None
  pub delays : delay_in event ≡ None
  pub starts : start_in event ≡ None
  pub closes : closing_in event ≡ None

pub only_calls : (e : Event) (c : Call) → call_in e ≡ Some c → OnlyCalls e
unfolding call_in wait_in delay_in start_in closing_in
only_calls (event.Called by callee entry patience due) c says = record { waits = refl; delays = refl; starts = refl; closes = refl }
only_calls _ c says = absurd (none-some c says)

-- the releases that release calls
abbrev pub frees_call : Event → Bool
frees_call (event.Ended by call raised) = true
frees_call (event.Failed call) = true
frees_call (event.Cancelled call) = true
frees_call _ = false

pub same_event : (journal : List Event) (p : ℕ) (d e : Event) → event_at journal p ≡ Some d → event_at journal p ≡ Some e → d ≡ e
same_event journal p d e at also = same_Some d e (sym at ∙ also)

row_no_call : (journal : List Event) (e : Event) (x : ℕ) (call : Call) → IsRow journal e → released_in e ≡ Some x → frees_call e ≡ false
    → IsCallAt journal call x → ⊥
unfolding released_in
row_no_call journal e x call (meets p d wait c at says pending taken) frees_it other called =
    none-some wait
    (sym (only_calls called.event call called.says).waits ∙
    (ap wait_in (same_event journal x called.event d called.stands (ap (event_at journal) (sym (same_Some p x frees_it)) ∙ at)) ∙ says))
row_no_call journal e x call (passes p d wait way at says pending taken) frees_it other called =
    none-some wait
    (sym (only_calls called.event call called.says).waits ∙
    (ap wait_in (same_event journal x called.event d called.stands (ap (event_at journal) (sym (same_Some p x frees_it)) ∙ at)) ∙ says))
row_no_call journal e x call (wakes p d delay at says wake) frees_it other called =
    none-some delay
    (sym (only_calls called.event call called.says).delays ∙
    (ap delay_in (same_event journal x called.event d called.stands (ap (event_at journal) (sym (same_Some p x frees_it)) ∙ at)) ∙ says))
row_no_call journal e x call (activates p d start ok at says pending done is) frees_it other called =
    none-some start
    (sym (only_calls called.event call called.says).starts ∙
    (ap start_in (same_event journal x called.event d called.stands (ap (event_at journal) (sym (same_Some p x frees_it)) ∙ at)) ∙ says))
row_no_call journal e x call (leaves p d closing at says leave) frees_it other called =
    none-some closing
    (sym (only_calls called.event call called.says).closes ∙
    (ap closing_in (same_event journal x called.event d called.stands (ap (event_at journal) (sym (same_Some p x frees_it)) ∙ at)) ∙ says))
row_no_call journal e x call (fails p d at fail) frees_it other called = true≢false other
row_no_call journal e x call (cancels p d at cancel) frees_it other called = true≢false other
row_no_call journal e x call (halts u below halt) frees_it other called = none-some x frees_it
row_no_call journal e x call (goes u below go) frees_it other called = none-some x frees_it
row_no_call journal e x call (quits m quit) frees_it other called = none-some x frees_it

asked_frees : (journal : List Event) (r : Request) (x : ℕ) → released_in (asked_event journal r) ≡ Some x → frees_call (asked_event journal r) ≡ true
unfolding released_in asked_event
asked_frees journal (request.End by raised) x says = refl
asked_frees journal _ x says = absurd (none-some x says)

pub no_call : (e : Event) (before : List Event) (x : ℕ) (call : Call) → MayFollow refusal before e → released_in e ≡ Some x → frees_call e ≡ false
    → IsCallAt before call x → ⊥
no_call e before x call (inl forces) releases other called = row_no_call before e x call (forced-row before e forces) releases other called
no_call e before x call (inr asked) releases other called =
    true≢false (sym (asked_frees before asked.request x (ap released_in (sym asked.becomes) ∙ releases)) ∙ (ap frees_call (sym asked.becomes) ∙ other))

-- a release of a wait, a delay, a start or a close adds nothing
abbrev pub left_call : (e : Event) (before : List Event) (v : ℕ) (left : IsUnqueued e before v) → IsCallAt before left.call left.position
left_call e before v left = record { event = left.called; stands = left.stands; says = left.says }

freed_key : (e : Event) (before : List Event) (p : ℕ) (row : Row) (key : ℕ) → IsLawful (e ∷ before) → released_in e ≡ Some p → meeting_in e ≡ None
    → frees_call e ≡ false → ReleaseKey e before p row key → ⊥
freed_key e before p row key lawful releases meeting other (frees call at abnormal) = no_call e before p call lawful.1 releases other at
freed_key e before p row key lawful releases meeting other (empties m v left ready depends) =
    no_call e before p left.call lawful.1 releases other
    (subst (λ (n : ℕ). IsCallAt before left.call n) (left_position e before p v releases meeting left) (left_call e before v left))

pub freed_adds : (e : Event) (before : List Event) (p : ℕ) (row : Row) (key : ℕ) → IsLawful (e ∷ before) → released_in e ≡ Some p → meeting_in e ≡ None
    → frees_call e ≡ false → Key e before row key → ⊥
freed_adds e before p row key lawful releases meeting other touched =
    freed_key e before p row key lawful releases meeting other (release_key e before p row key lawful releases touched)
