-- What is due by a tick.
use Rattle.std.proofs.Common.{◌≡◌, ℕ, ℤ, ◌<◌, ◌≤◌, Bool, true, List, Some, None, length, sym, ap, ◌∙◌, subst, arith}
use Rattle.std.specs.Prelude.{int_le}
use Rattle.std.proofs.lemmas.Option.{none-some, same_Some}
use Rattle.ada_events.specs.declared.event.Event.{Event}
use Rattle.ada_events.specs.declared.event.Event.TheVariants.{Ticked}
use Rattle.ada_events.specs.declared.limits.TheConstants.{MOST_EVENTS}
use Rattle.ada_events.specs.Search.{event_at}
use Rattle.ada_events.specs.Says.{moment_in}
use Rattle.ada_events.specs.Tasks.{task_count}
use Rattle.ada_events.specs.Waits.{is_due}
use Rattle.ada_events.specs.Lawful.{IsLawful}
use Rattle.ada_laws.proofs.asking.LimitLaws.{events_are_few}
use Rattle.ada_laws.proofs.searching.Searching.{event_at-within}
use Rattle.ada_laws.proofs.held.Suspending.{suspended_exists}
use Rattle.ada_step_laws.specs.declared.row.Row.{Row}
use Rattle.ada_agenda.specs.declared.numbers.TheConstants.{MOST_KEYS}
use Rattle.ada_agenda.specs.Keeping.{has_key, Puts, AsKey, When, KeepsUp}
use Rattle.ada_agenda.specs.Keeping.AsKey.{itself}
use Rattle.ada_agenda.specs.Keeping.When.{holds_so}
use Rattle.ada_step_laws.specs.Kinds.{due_in, due_row, OfTick, Adds}
use Rattle.ada_step_laws.specs.Kinds.OfTick.{comes_due}
use Rattle.ada_step_laws.specs.Held.{IsHeldAt}
use Rattle.ada_agenda.proofs.Noting.{grows_same, held_there, noted}
use Rattle.ada_triggers.specs.internal.Keys.{OfFirst, AsDue, AsDueAt, is_due_by}
use Rattle.ada_triggers.specs.internal.Keys.AsDue.{comes}
use Rattle.ada_triggers.specs.internal.Keys.AsDueAt.{comes_at}
use Rattle.ada_triggers.proofs.Putting.{covered_put}

-- an event stands at a position that is a key
pub position_fits : (journal : List Event) (at : ℕ) (e : Event) → IsLawful journal → event_at journal at ≡ Some e → at < MOST_KEYS
position_fits journal at e lawful stands =
    let within : at ≤ length journal = event_at-within journal at e stands in
    let few : length journal ≤ MOST_EVENTS = events_are_few journal lawful in
    omega (arith, within, few)

due_key : (journal : List Event) (tick : Event) (at : ℕ) (e : Event) (in_row : Row) (so : Bool) (row : Row) (key : ℕ) → event_at journal at ≡ Some e
    → in_row ≡ due_row e → so ≡ is_due_by tick e → AsDueAt journal tick at row key → When so (AsKey in_row at) row key
due_key journal tick at e in_row so row key stands rows so_is (comes_at f there due) =
    let same : e ≡ f = same_Some e f (sym stands ∙ there) in
    let one : in_row ≡ due_row f = rows ∙ ap due_row same in
    holds_so (so_is ∙ ap (is_due_by tick) same ∙ due) (rw one itself)

pub due_put : (journal : List Event) (old new : List (List ℕ)) (tick : Event) (at : ℕ) (e : Event) (in_row : Row) (so : Bool) → event_at journal at ≡ Some e
    → in_row ≡ due_row e → so ≡ is_due_by tick e → Puts old new (When so (AsKey in_row at)) → Puts old new (AsDueAt journal tick at)
due_put journal old new tick at e in_row so stands rows so_is puts =
    covered_put old new (AsDueAt journal tick at) (When so (AsKey in_row at)) puts (λ row key of.
    due_key journal tick at e in_row so row key stands rows so_is of)

no_due_key : (journal : List Event) (new : List (List ℕ)) (tick : Event) (at : ℕ) (row : Row) (key : ℕ) → event_at journal at ≡ None
    → AsDueAt journal tick at row key → has_key new row key ≡ true
no_due_key journal new tick at row key none (comes_at f there due) = absurd (none-some f (sym none ∙ there))

pub no_due : (journal : List Event) (old : List (List ℕ)) (tick : Event) (at : ℕ) → event_at journal at ≡ None → Puts old old (AsDueAt journal tick at)
no_due journal old tick at none = record { grows = grows_same old; here = λ row key of. no_due_key journal old tick at row key none of }

-- a moment that is waited for has come by a tick to another
pub comes_by_tick : (tick event : Event) (now : ℤ) → tick ≡ Ticked now → is_due_by tick event ≡ is_due now (due_in event)
unfolding moment_in
comes_by_tick tick event now ticks = ap (λ (t : Event). is_due_by t event) ticks

-- where a task is suspended
at_key : (journal : List Event) (tick : Event) (task at : ℕ) (row : Row) (key : ℕ) → IsLawful journal → IsHeldAt journal task at
    → AsDue journal tick task row key → AsDueAt journal tick at row key
at_key journal tick task at row key lawful is (comes e p stands suspended due) =
    let there = held_there journal task at p lawful is suspended in
    subst (λ n. AsDueAt journal tick at (due_row e) n) (sym there.1) (comes_at e (ap (event_at journal) (sym there.1) ∙ stands) due)

pub task_due_put : (journal : List Event) (old new : List (List ℕ)) (tick : Event) (task at : ℕ) → IsLawful journal → IsHeldAt journal task at
    → Puts old new (AsDueAt journal tick at) → Puts old new (AsDue journal tick task)
task_due_put journal old new tick task at lawful is puts =
    record { grows = puts.grows; here = λ row key of. puts.here row key (at_key journal tick task at row key lawful is of) }

-- where a task is suspended at an event, by a tick
pub due_noted : (journal : List Event) (old new : List (List ℕ)) (tick event : Event) (now : ℤ) (task at : ℕ) (row : Row) (so : Bool)
    → IsLawful journal → IsHeldAt journal task at → event_at journal at ≡ Some event → tick ≡ Ticked now → row ≡ due_row event → so ≡ is_due now (due_in event)
    → Puts old new (When so (AsKey row at)) → Puts old new (AsDue journal tick task)
due_noted journal old new tick event now task at row so lawful is stands ticks rows so_is puts =
    task_due_put journal old new tick task at lawful is
    (due_put journal old new tick at event row so stands rows (so_is ∙ sym (comes_by_tick tick event now ticks)) puts)

-- a tick
due_by : (now : ℤ) (e : Event) (due : ℤ) → due_in e ≡ Some due → int_le due now ≡ true → is_due_by (Ticked now) e ≡ true
unfolding moment_in
due_by now e due waits due_now = ap (is_due now) waits ∙ due_now

tick_key : (before : List Event) (now : ℤ) (row : Row) (key : ℕ) → IsLawful before → OfTick before now row key
    → OfFirst (AsDue before (Ticked now)) (task_count before) row key
tick_key before now row key lawful (comes_due r p due) = record {
  task = due.task;
  among = suspended_exists before due.task p lawful due.suspended;
  of =
      subst (λ (r : Row). AsDue before (Ticked now) due.task r p) due.in_row
      (comes due.event p due.stands due.suspended (due_by now due.event due.due due.waits due.comes));
}

pub tick_noted : (event : Event) (before : List Event) (old new : List (List ℕ)) (now : ℤ) → event ≡ Ticked now
    → Puts old new (OfFirst (AsDue before event) (task_count before)) → KeepsUp before event old new
tick_noted event before old new now is puts lawful agenda =
    noted event before old new (OfFirst (AsDue before event) (task_count before)) lawful agenda puts (λ row key added.
    subst (λ (e : Event). OfFirst (AsDue before e) (task_count before) row key) (sym is)
    (tick_key before now row key lawful.0 (subst (λ (e : Event). Adds before e row key) is added)))
