-- The next moment for which a task is suspended.
use Rattle.std.proofs.Common.{◌≡◌, ℕ, ◌+◌, ℤ, ◌≤◌, ◌≤ℤ◌, true, false, ◌⊎◌, Option, Some, None, List, [], ◌∷◌, refl, sym, ap, ◌∙◌, subst, arith, inl, inr}
use Rattle.std.specs.Prelude.{int_le}
use Rattle.std.proofs.lemmas.Bool.{true≢false, cases_lt}
use Rattle.std.proofs.lemmas.Int.{ints}
use Rattle.std.proofs.lemmas.Option.{none-some, same_Some}
use Rattle.ada_events.specs.declared.event.Event.{Event}
use Rattle.ada_events.specs.declared.event.Event.TheVariants.{Created, Ticked}
use Rattle.ada_events.specs.Search.{event_at}
use Rattle.ada_events.specs.Says.{Creation, creation_in, moment_in}
use Rattle.ada_events.specs.Tasks.{task_count, moment}
use Rattle.ada_events.specs.Waits.{is_due, earlier}
use Rattle.ada_events.specs.Lawful.{IsLawful}
use Rattle.ada_events.proofs.Earlier.{one_comes}
use Rattle.ada_laws.proofs.held.LastingLaws.{moments_never_go_back}
use Rattle.ada_laws.proofs.searching.Searching.{event_at-newest, event_at-older}
use Rattle.ada_laws.proofs.held.Suspending.{suspended_cases, suspended_exists}
use Rattle.ada_step_laws.specs.declared.row.Row.{Row}
use Rattle.ada_agenda.specs.Keeping.{KeepsUp}
use Rattle.ada_step_laws.specs.Kinds.{due_in, OfTick, Adds}
use Rattle.ada_step_laws.specs.Kinds.OfTick.{comes_due}
use Rattle.ada_step_laws.specs.Held.{IsHeldAt}
use Rattle.ada_agenda.proofs.Noting.{noted, grows_same, held_there}
use Rattle.ada_triggers.specs.Bounds.{IsSuspendedUntil, IsDueBound}
use Rattle.ada_triggers.specs.internal.Bounds.{IsBoundOfFirst, IsDueAfter}

-- moments
up_to : (a b c : ℤ) → int_le a b ≡ true → int_le b c ≡ true → int_le a c ≡ true
up_to a b c low high = grind (arith, ints)

itself_comes : (a : ℤ) → int_le a a ≡ true
itself_comes a = grind (arith, ints)

still_over : (due was now : ℤ) → was ≤ℤ now → int_le due now ≡ false → int_le due was ≡ false
still_over due was now on over = grind (arith, ints)

-- a moment that comes by an earlier one comes by a later one
comes_later : (bound : Option ℤ) (due now : ℤ) → is_due due bound ≡ true → int_le due now ≡ true → is_due now bound ≡ true
comes_later None due now comes on = comes
comes_later (Some b) due now comes on = up_to b due now comes on

pub earlier_alone : (bound : Option ℤ) → earlier bound None ≡ bound
unfolding earlier
earlier_alone None = refl
earlier_alone (Some m) = refl

-- in the empty journal nobody is suspended
pub nobody_waits : IsDueBound [] None
unfolding event_at
nobody_waits = record { reaches = λ task due until over. absurd (none-some until.suspended.event until.suspended.stands) }

-- a task is suspended until a moment that the newest event has, or was so before
until_cases : (event : Event) (before : List Event) (task : ℕ) (due : ℤ) → IsSuspendedUntil (event ∷ before) task due
    → (due_in event ≡ Some due) ⊎ IsSuspendedUntil before task due
until_cases event before task due until =
    let h = until.suspended in
    elim (suspended_cases event before task until.position h) [
      | inl newest ↦
          let stands = ap (event_at (event ∷ before)) (sym newest.0) ∙ h.stands in
          let same : event ≡ h.event = same_Some event h.event (sym (event_at-newest event before) ∙ stands) in
          inl (ap due_in same ∙ until.waits)
      | inr older ↦
          let stands = event_at-older event before until.position older.event older.stands in
          let same : older.event ≡ h.event = same_Some older.event h.event (sym stands ∙ h.stands) in
          inr (record { position = until.position; suspended = older; waits = ap due_in same ∙ until.waits })
    ]

-- the bound, made earlier where the event has an earlier moment, is one of the longer journal
pub bound_noted : (event : Event) (before : List Event) (bound : Option ℤ) → IsLawful (event ∷ before) → IsDueBound before bound
    → IsDueBound (event ∷ before) (earlier bound (due_in event))
bound_noted event before bound lawful is = record {
  reaches = λ task due until over.
      one_comes bound (due_in event) due
      (elim (until_cases event before task due until) [
        | inl newest ↦ inr (ap (is_due due) newest ∙ itself_comes due)
        | inr older ↦
            inl (is.reaches task due older
            (still_over due (moment before) (moment (event ∷ before)) (moments_never_go_back event before lawful) over))
      ]);
}

-- an event at which no moment is waited for leaves the bound
pub bound_kept : (event : Event) (before : List Event) (bound : Option ℤ) → IsLawful (event ∷ before) → IsDueBound before bound
    → due_in event ≡ None → IsDueBound (event ∷ before) bound
bound_kept event before bound lawful is none =
    subst (IsDueBound (event ∷ before)) (ap (earlier bound) none ∙ earlier_alone bound) (bound_noted event before bound lawful is)

creation_waits_not : (event : Event) (creation : Creation) → creation_in event ≡ Some creation → due_in event ≡ None
unfolding creation_in
creation_waits_not (Created by under master families) creation makes = refl
creation_waits_not _ creation makes = absurd (none-some creation makes)

-- so a creation leaves it (9.3)
pub creation_keeps_bound : (event : Event) (before : List Event) (bound : Option ℤ) (creation : Creation) → IsLawful (event ∷ before)
    → IsDueBound before bound → creation_in event ≡ Some creation → IsDueBound (event ∷ before) bound
creation_keeps_bound event before bound creation lawful is makes =
    bound_kept event before bound lawful is (creation_waits_not event creation makes)

-- a tick that doesn't reach the bound adds nothing
nothing_due : (before : List Event) (now : ℤ) (bound : Option ℤ) (row : Row) (key : ℕ) → IsDueBound before bound → is_due now bound ≡ false
    → OfTick before now row key → ⊥
nothing_due before now bound row key is early (comes_due r p due) =
    let same = same_Some due.suspended.event due.event (sym due.suspended.stands ∙ due.stands) in
    let until : IsSuspendedUntil before due.task due.due =
    record { position = p; suspended = due.suspended; waits = ap due_in same ∙ due.waits } in
    true≢false (sym (comes_later bound due.due now (is.reaches due.task due.due until due.was) due.comes) ∙ early)

pub early_tick_noted : (event : Event) (before : List Event) (old : List (List ℕ)) (now : ℤ) (bound : Option ℤ) → IsDueBound before bound
    → event ≡ Ticked now → is_due now bound ≡ false → KeepsUp before event old old
early_tick_noted event before old now bound is ticks early lawful agenda =
    noted event before old old (Adds before event) lawful agenda
    (record {
      grows = grows_same old;
      here = λ row key added. absurd (nothing_due before now bound row key is early (subst (λ (e : Event). Adds before e row key) ticks added));
    })
    (λ row key added. added)

-- the moment that one of the first so many tasks waits for
pub first_none : (journal : List Event) (now : ℤ) (bound : Option ℤ) → IsBoundOfFirst journal now 0 bound
first_none journal now bound = record { reaches = λ task due below. absurd (omega (arith, below)) }

pub first_more : (journal : List Event) (now : ℤ) (many : ℕ) (bound found : Option ℤ) → IsBoundOfFirst journal now many bound
    → IsDueAfter journal now many found → IsBoundOfFirst journal now (many + 1) (earlier bound found)
first_more journal now many bound found is last = record {
  reaches = λ task due below until over.
      one_comes bound found due
      (elim (cases_lt task many) [
        | inl older ↦ inl (is.reaches task due older until over)
        | inr newest ↦
            let same : task ≡ many = omega (arith, below, newest) in
            inr (ap (is_due due) (last due (subst (λ t. IsSuspendedUntil journal t due) same until) over) ∙ itself_comes due)
      ]);
}

pub first_all : (journal : List Event) (now : ℤ) (many all : ℕ) (bound : Option ℤ) → IsBoundOfFirst journal now many bound → all ≤ many
    → IsBoundOfFirst journal now all bound
first_all journal now many all bound is enough = record { reaches = λ task due below. is.reaches task due (omega (arith, below, enough)) }

-- the moment of a tick
pub ticked_to : (event : Event) (before : List Event) (now : ℤ) → event ≡ Ticked now → moment (event ∷ before) ≡ now
unfolding moment moment_in
ticked_to event before now ticks = rw ticks refl

pub tick_waits_not : (event : Event) (now : ℤ) → event ≡ Ticked now → due_in event ≡ None
tick_waits_not event now ticks = ap due_in ticks

-- the bound after a tick that reached the one before
pub bound_renewed : (event : Event) (before : List Event) (now : ℤ) (bound : Option ℤ) → IsLawful (event ∷ before) → event ≡ Ticked now
    → IsBoundOfFirst before now (task_count before) bound → IsDueBound (event ∷ before) bound
bound_renewed event before now bound lawful ticks is = record {
  reaches = λ task due until over.
      elim (until_cases event before task due until) [
        | inl newest ↦ absurd (none-some due (sym (tick_waits_not event now ticks) ∙ newest))
        | inr older ↦
            is.reaches task due (suspended_exists before task older.position lawful.0 older.suspended) older
            (ap (int_le due) (sym (ticked_to event before now ticks)) ∙ over)
      ];
}

-- the moment at the event at which a task is suspended
until_there : (journal : List Event) (task at : ℕ) (due : ℤ) (event : Event) → IsLawful journal → IsHeldAt journal task at
    → IsSuspendedUntil journal task due → event_at journal at ≡ Some event → due_in event ≡ Some due
until_there journal task at due event lawful is until there =
    let same = (held_there journal task at until.position lawful is until.suspended).1 in
    let stands = ap (event_at journal) (sym same) ∙ until.suspended.stands in
    ap due_in (same_Some event until.suspended.event (sym there ∙ stands)) ∙ until.waits

pub due_there : (journal : List Event) (now : ℤ) (task at : ℕ) (event : Event) → IsLawful journal → IsHeldAt journal task at
    → event_at journal at ≡ Some event → IsDueAfter journal now task (due_in event)
due_there journal now task at event lawful is there due until over = until_there journal task at due event lawful is until there

pub came_there : (journal : List Event) (now : ℤ) (task at : ℕ) (event : Event) (found : Option ℤ) → IsLawful journal → IsHeldAt journal task at
    → event_at journal at ≡ Some event → is_due now (due_in event) ≡ true → IsDueAfter journal now task found
came_there journal now task at event found lawful is there came due until over =
    let waits = until_there journal task at due event lawful is until there in
    absurd (true≢false (sym came ∙ ap (is_due now) waits ∙ over))

pub nothing_there : (journal : List Event) (now : ℤ) (task at : ℕ) (found : Option ℤ) → IsLawful journal → IsHeldAt journal task at
    → event_at journal at ≡ None → IsDueAfter journal now task found
nothing_there journal now task at found lawful is none due until over =
    let same = (held_there journal task at until.position lawful is until.suspended).1 in
    absurd (none-some until.suspended.event (sym none ∙ ap (event_at journal) (sym same) ∙ until.suspended.stands))
