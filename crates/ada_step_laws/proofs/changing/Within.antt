-- What is released, or met, stands in the journal.
use Rattle.std.proofs.Common.{◌≡◌, ℕ, suc, ◌≤◌, true, false, Some, None, List, [], ◌∷◌, length, sym, ap, ◌∙◌, arith, inl, inr}
use Rattle.std.specs.List.{list_any}
use Rattle.std.proofs.lemmas.Bool.{or_cases, false_from_ne_true, false≢true}
use Rattle.std.proofs.lemmas.Option.{same_Some, none-some}
use Rattle.ada_events.specs.declared.event.Event.{Event}
use Rattle.ada_events.specs.declared.request.Request.{Request}
use Rattle.ada_events.specs.declared.request.Request.TheVariants as request
use Rattle.ada_events.specs.Search.{is_number}
use Rattle.ada_events.specs.Says.{released_in}
use Rattle.ada_events.specs.Asks.{asked_event}
use Rattle.ada_events.specs.Phases.{is_released}
use Rattle.ada_events.specs.Calls.{is_met}
use Rattle.ada_events.specs.Refusals.{refusal}
use Rattle.ada_events.specs.Lawful.{IsLawful, MayFollow}
use Rattle.ada_laws.proofs.searching.Searching.{is_number-some, event_at-within}
use Rattle.ada_laws.proofs.within.Members.{nest_open, end_within}
use Rattle.ada_laws.proofs.forced.Rows.{IsRow, forced-row}
use Rattle.ada_laws.proofs.forced.Rows.IsRow.{fails, meets, cancels, passes, wakes, activates, leaves}
use Rattle.ada_laws.proofs.queues.Meeting.{is_met-found, meeting_at}
use Rattle.ada_laws.proofs.queues.Queueing.{open_within}

asked_within : (journal : List Event) (r : Request) (p : ℕ) → refusal journal r ≡ None → released_in (asked_event journal r) ≡ Some p → p ≤ length journal
unfolding asked_event released_in
asked_within journal (request.End by raised) p accepted frees =
    rw (← same_Some _ p frees) (open_within journal _ (nest_open journal by.0 _ (end_within journal by raised accepted)))
asked_within journal _ p accepted frees = absurd (none-some p frees)

row_within : (journal : List Event) (e : Event) (p : ℕ) → IsRow journal e → released_in e ≡ Some p → p ≤ length journal
unfolding released_in
row_within journal e p (fails q f at fail) frees = rw (← same_Some q p frees) (event_at-within journal q f at)
row_within journal e p (meets q f wait call at says pending taken) frees = rw (← same_Some q p frees) (event_at-within journal q f at)
row_within journal e p (cancels q f at cancel) frees = rw (← same_Some q p frees) (event_at-within journal q f at)
row_within journal e p (passes q f wait way at says pending taken) frees = rw (← same_Some q p frees) (event_at-within journal q f at)
row_within journal e p (wakes q f delay at says wake) frees = rw (← same_Some q p frees) (event_at-within journal q f at)
row_within journal e p (activates q f start ok at says pending done is_ok) frees = rw (← same_Some q p frees) (event_at-within journal q f at)
row_within journal e p (leaves q f closing at says leave) frees = rw (← same_Some q p frees) (event_at-within journal q f at)
row_within journal e p _ frees = absurd (none-some p frees)

pub releases_within : (event : Event) (before : List Event) (p : ℕ) → MayFollow refusal before event → released_in event ≡ Some p → p ≤ length before
releases_within event before p (inl forces) frees = row_within before event p (forced-row before event forces) frees
releases_within event before p (inr asked) frees = asked_within before asked.request p asked.accepted (ap released_in (sym asked.becomes) ∙ frees)

pub released_within : (journal : List Event) (p : ℕ) → IsLawful journal → is_released journal p ≡ true → p ≤ length journal
unfolding is_released
released_within [] p lawful released = absurd (false≢true released)
released_within (event ∷ before) p lawful released =
    elim (or_cases (is_number p (released_in event)) (list_any (λ (e : Event). is_number p (released_in e)) before) released) [
      | inl now ↦
          let within : p ≤ length before = releases_within event before p lawful.1 (is_number-some p (released_in event) now) in
          omega arith
      | inr was ↦
          let within : p ≤ length before = released_within before p lawful.0 was in
          omega arith
    ]

pub met_within : (journal : List Event) (p : ℕ) → IsLawful journal → is_met journal p ≡ true → p ≤ length journal
met_within journal p lawful met =
    let (position, q, at) = is_met-found journal p met in
    let meeting = meeting_at journal p position q lawful at in
    event_at-within journal p meeting.call_stands.event meeting.call_stands.stands

-- what comes next is neither released nor met
pub next_unreleased : (event : Event) (before : List Event) → IsLawful (event ∷ before) → is_released (event ∷ before) (suc (length before)) ≡ false
unfolding is_released
next_unreleased event before lawful =
    false_from_ne_true _ (λ released.
    elim (or_cases (is_number (suc (length before)) (released_in event)) (list_any (λ (e : Event). is_number (suc (length before)) (released_in e)) before)
    released) [
      | inl now ↦
          let within : suc (length before) ≤ length before = releases_within event before (suc (length before)) lawful.1
          (is_number-some _ (released_in event) now) in
          absurd (omega arith)
      | inr was ↦
          let within : suc (length before) ≤ length before = released_within before (suc (length before)) lawful.0 was in
          absurd (omega arith)
    ])
