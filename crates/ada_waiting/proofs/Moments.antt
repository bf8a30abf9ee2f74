-- The first moment for which any task waits.
use Rattle.std.proofs.Common.{◌+◌, ◌≡◌, ℕ, zero, suc, ◌<◌, ℤ, Bool, true, false, not, ◌||◌}
use Rattle.std.proofs.Common.{None, Some, List, ◌∷◌, refl, sym, ap, ◌∙◌, subst, arith, inl, inr}
use Rattle.std.proofs.lemmas.Bool.{cases_eq, true≢false, and_parts, not-true}
use Rattle.std.proofs.lemmas.Option.{none-some}
use Rattle.ada_events.specs.declared.event.Event.{Event}
use Rattle.ada_events.specs.declared.event.Event.TheVariants as event
use Rattle.ada_events.specs.declared.event.Event.TheVariants.{Ticked, Cancelled}
use Rattle.ada_events.specs.Search.{is_some_and, event_at}
use Rattle.ada_events.specs.Says.{Call, call_in, meeting_in}
use Rattle.ada_events.specs.Tasks.{task_count, moment}
use Rattle.ada_events.specs.Phases.{is_suspended}
use Rattle.ada_events.specs.Calls.{is_met, is_open_at, is_queued_at}
use Rattle.ada_events.specs.Waits.{is_due, due_by, earlier}
use Rattle.ada_events.specs.Forced.{is_conditional, is_to_cancel}
use Rattle.ada_events.specs.Lawful.{IsLawful, IsSettled}
use Rattle.ada_events.proofs.Earlier.{one_comes}
use Rattle.ada_laws.specs.Suspension.{IsSuspendedAt}
use Rattle.ada_laws.proofs.searching.Searching.{then_some-some, option_and_then-some}
use Rattle.ada_laws.proofs.held.Suspending.{is_suspended-from, suspended_exists}
use Rattle.ada_step_laws.specs.declared.row.Row.{Row}
use Rattle.ada_step_laws.specs.declared.row.Row.TheVariants.{Cancelling}
use Rattle.ada_step_laws.specs.Rows.{at_event, step_at}
use Rattle.ada_step_laws.proofs.rows.Keys.{none_from, forced_nothing}
use Rattle.ada_step_laws.specs.Kinds.{due_in, due_row, OfTick}
use Rattle.ada_step_laws.specs.Kinds.OfTick.{comes_due}
use Rattle.ada_step_laws.proofs.newly.Adding.{agendas_grow}
use Rattle.ada_waiting.specs.Reasons.{suspended_at}
use Rattle.ada_waiting.specs.Standstill.{due_at, due_of, first_due_below, first_due}
use Rattle.ada_waiting.proofs.Holding.{suspended_at_is, suspended_at_from}
use Rattle.ada_waiting.proofs.Settling.{settled_agenda}

pub due_of_suspended : (journal : List Event) (task p : ℕ) (e : Event) → IsLawful journal → IsSuspendedAt journal task p → event_at journal p ≡ Some e
    → due_of journal task ≡ due_at journal p e
unfolding due_of
due_of_suspended journal task p e lawful h stands =
    rw (suspended_at_is journal task p lawful h, stands) refl

pub not_due : (journal : List Event) (task : ℕ) → is_suspended journal task ≡ false → due_of journal task ≡ None
unfolding due_of
not_due journal task free =
    rw (none_from (suspended_at journal task) (λ p is.
    true≢false (sym (is_suspended-from journal task p (suspended_at_from journal task p is)) ∙ free))) refl

pub first_due_below_more : (journal : List Event) (n : ℕ) → first_due_below journal (n + 1) ≡ earlier (first_due_below journal n) (due_of journal n)
unfolding first_due_below
first_due_below_more journal n = let e : n + 1 ≡ suc n = omega arith in rw e refl

-- the first moment has come where that of a task has
pub first_comes : (journal : List Event) (n task : ℕ) (now : ℤ) → task < n → is_due now (due_of journal task) ≡ true
    → is_due now (first_due_below journal n) ≡ true
unfolding first_due_below
first_comes journal zero task now below comes = absurd (omega arith)
first_comes journal (suc n) task now below comes =
    elim (cases_eq task n) [
      | inl same ↦
          one_comes (first_due_below journal n) (due_of journal n) now (inr (sym (ap (λ t. is_due now (due_of journal t)) same) ∙ comes))
      | inr other ↦
          one_comes (first_due_below journal n) (due_of journal n) now (inl (first_comes journal n task now (omega arith) comes))
    ]

-- a call that is given up is queued, and no rendezvous began with it
cancels_unmet : (journal : List Event) (p : ℕ) (step : Event) → step_at journal Cancelling p ≡ Some step → is_met journal p ≡ false
unfolding step_at is_to_cancel is_queued_at
cancels_unmet journal p step gives =
    let (e, at, is) = option_and_then-some (at_event journal Cancelling p) (event_at journal p) step gives in
    let cancels = (then_some-some (is_to_cancel journal p e) (Cancelled p) step is).0 in
    let conditional : Bool = is_some_and (call_in e) (λ (c : Call). is_conditional c.patience || is_due (moment journal) c.due) in
    let queued = (and_parts conditional (is_queued_at journal p e) cancels).1 in
    not-true (is_met journal p) (and_parts (is_open_at journal p e) (not (is_met journal p)) queued).1

-- where a row that goes by the moment gives a step, its moment is what is waited for
waits_there : (before : List Event) (now : ℤ) (p : ℕ) (e : Event) (due : ℤ) (row : Row) (step : Event) → due_in e ≡ Some due → due_row e ≡ row
    → step_at (Ticked now ∷ before) row p ≡ Some step → due_at before p e ≡ Some due
unfolding due_by is_met meeting_in
waits_there before now p (event.Called by callee entry patience moment) due row step waits in_row gives =
    rw (cancels_unmet (Ticked now ∷ before) p step (subst (λ (r : Row). step_at (Ticked now ∷ before) r p ≡ Some step) (sym in_row) gives)) waits
waits_there before now p (event.Waiting by pick choices tail) due row step waits in_row gives = waits
waits_there before now p (event.Paused by moment) due row step waits in_row gives = waits
waits_there before now p _ due row step waits in_row gives = absurd (none-some due waits)

-- a tick that comes to no task's moment adds nothing
nothing_due : (before : List Event) (now : ℤ) (row : Row) (key : ℕ) (step : Event) → IsLawful before → is_due now (first_due before) ≡ false
    → OfTick before now row key → step_at (Ticked now ∷ before) row key ≡ Some step → ⊥
unfolding first_due
nothing_due before now row key step lawful early (comes_due r p due) gives =
    let waits = due_of_suspended before due.task p due.event lawful due.suspended due.stands in
    let there = waits_there before now p due.event due.due row step due.waits due.in_row gives in
    let comes : is_due now (due_of before due.task) ≡ true = ap (is_due now) (waits ∙ there) ∙ due.comes in
    true≢false (sym (first_comes before (task_count before) due.task now (suspended_exists before due.task p lawful due.suspended) comes) ∙ early)

pub early_ticks_force_nothing : (journal : List Event) (now : ℤ) → IsLawful (Ticked now ∷ journal) → IsSettled journal → is_due now (first_due journal) ≡ false
    → IsSettled (Ticked now ∷ journal)
early_ticks_force_nothing journal now lawful settled early =
    let none : Row → ℕ → Bool = λ row key. false in
    forced_nothing (Ticked now ∷ journal) none
    (agendas_grow (Ticked now) journal none none lawful (settled_agenda journal settled) (λ row key has. has)
    (λ row key step adds gives. absurd (nothing_due journal now row key step lawful.0 early adds gives)))
    (λ row key. refl)
