-- What becomes of what is kept of a task's latest suspension by one more event.
use Rattle.std.proofs.Common.{◌≡◌, ℕ, zero, suc, ◌<◌, Bool, true, false, not, ◌&&◌, eqb, Option, Some, None, List, ◌∷◌, length, sym, refl, ap, ◌∙◌, subst}
use Rattle.std.proofs.Common.{arith, inl, inr, ◌||◌}
use Rattle.std.specs.Option.{option_map_or}
use Rattle.std.proofs.lemmas.Bool.{and_from, and_parts, not-true, not_from_false, eq-eqb, false_from_ne_true, true≢false, cases_Bool, or_cases}
use Rattle.std.proofs.lemmas.Option.{none-some, same_Some}
use Rattle.ada_events.specs.declared.event.Event.{Event}
use Rattle.ada_events.specs.declared.event.Event.TheVariants.{Completed, Elaborated, Halted, Gone, Quit}
use Rattle.ada_events.specs.declared.outcome.Outcome.{Outcome}
use Rattle.ada_events.specs.declared.names.Master.{Master}
use Rattle.ada_events.specs.Search.{is_number, is_some_and, event_at}
use Rattle.ada_events.specs.Says.{Wait, Meeting, wait_in, held_in, released_in, meeting_in, completed_in, gone_in, quit_in}
use Rattle.ada_events.specs.Masters.{depends_on}
use Rattle.ada_events.specs.Phases.{is_released, has_ended}
use Rattle.ada_events.specs.Calls.{is_met}
use Rattle.ada_events.specs.Outcomes.{raised_in, released_to}
use Rattle.ada_events.specs.Termination.{is_open_terminate, is_at_open_terminate}
use Rattle.ada_events.specs.Lawful.{IsLawful}
use Rattle.ada_laws.specs.Suspension.{IsSuspendedAt}
use Rattle.ada_laws.proofs.searching.Searching.{event_at-older, event_at-newest, any_event-from, is_number-some, is_number-from, option_map_or-true}
use Rattle.ada_laws.proofs.searching.Searching.{option_map_or-false}
use Rattle.ada_laws.proofs.searching.Saying.{held_in-wait}
use Rattle.ada_laws.proofs.held.Suspending.{is_suspended-from, suspended_cases, suspended_once}
use Rattle.ada_records.specs.declared.record.Suspension.{Suspension}
use Rattle.ada_step_laws.specs.Latest.{latest_outcome}
use Rattle.ada_records.specs.Records.{IsSuspensionOf}
use Rattle.ada_records.specs.Noted.{waits_at_open_terminate}
use Rattle.ada_records.specs.internal.Records.{held}
use Rattle.ada_step_laws.proofs.changing.Callers.{IsAtTerminate, at_terminate}
use Rattle.ada_step_laws.proofs.changing.Holding.{hold_only, held_newest, held_same, held_released, held_ended, suspended_later}
use Rattle.ada_step_laws.proofs.changing.LatestOutcomes.{holds_are_held, releases_decide, others_keep_outcomes}
use Rattle.ada_step_laws.proofs.changing.QueueChanges.{ends}
use Rattle.ada_step_laws.proofs.changing.Saying.{number_none, release_only, next_unmet, unmet_same}
use Rattle.ada_step_laws.specs.Held.{IsHeldAt}

-- a task is suspended where its record says
pub held_there : (journal : List Event) (task at p : ℕ) → IsLawful journal → IsHeldAt journal task at → IsSuspendedAt journal task p → at ≡ p
held_there journal task zero p lawful kept held = absurd (true≢false (sym (is_suspended-from journal task p held) ∙ kept.free refl))
held_there journal task (suc n) p lawful kept held = suspended_once journal task (suc n) p lawful (kept.held (omega arith)) held

abbrev quits : List Event → ℕ → Bool
quits journal task = is_at_open_terminate journal task && not (has_ended journal task)

terminate_at : (journal : List Event) (task : ℕ) → IsAtTerminate journal task → quits journal task ≡ true
terminate_at journal task is =
    and_from (is_at_open_terminate journal task) (not (has_ended journal task))
    (any_event-from (λ p e. is_some_and (wait_in e) (λ (w : Wait). eqb w.by task && is_open_terminate w.tail) && not (is_released journal p)) journal is.at
    is.waits.event is.waits.stands
    (and_from (is_some_and (wait_in is.waits.event) (λ (w : Wait). eqb w.by task && is_open_terminate w.tail)) (not (is_released journal is.at))
    (rw is.waits.says (and_from (eqb is.wait.by task) (is_open_terminate is.wait.tail) (eq-eqb is.wait.by task by_task) is.terminates))
    (not_from_false (is_released journal is.at) is.suspended.unreleased)))
    (not_from_false (has_ended journal task) is.suspended.live)
  where
    by_task : is.wait.by ≡ task
    by_task =
        let one : is.waits.event ≡ is.suspended.event = same_Some is.waits.event is.suspended.event (sym is.waits.stands ∙ is.suspended.stands) in
        same_Some is.wait.by task (sym (held_in-wait is.waits.event is.wait is.waits.says) ∙ ap held_in one ∙ is.suspended.holds)

no_terminate : (journal : List Event) (task : ℕ) → (IsAtTerminate journal task → ⊥) → quits journal task ≡ false
no_terminate journal task never =
    false_from_ne_true (quits journal task) (λ both.
    let parts = and_parts (is_at_open_terminate journal task) (not (has_ended journal task)) both in
    never (at_terminate journal task parts.0 (not-true (has_ended journal task) parts.1)))

terminate_later : (event : Event) (before : List Event) (task : ℕ) → is_number task (held_in event) ≡ false → IsAtTerminate (event ∷ before) task
    → IsAtTerminate before task
terminate_later event before task other is =
    elim (suspended_cases event before task is.at is.suspended) [
      | inl newest ↦ absurd (true≢false (sym (is_number-from task (held_in event) newest.1) ∙ other))
      | inr older ↦
          let one : older.event ≡ is.waits.event = same_Some older.event is.waits.event
          (sym (event_at-older event before is.at older.event older.stands) ∙ is.waits.stands) in
          record {
            at = is.at;
            wait = is.wait;
            waits = record { event = older.event; stands = older.stands; says = ap wait_in one ∙ is.waits.says };
            suspended = older;
            terminates = is.terminates;
          }
    ]

-- whether a task may quit stays the same where the event neither holds it up, nor releases it, nor ends it
same_quits : (event : Event) (before : List Event) (task at : ℕ) → IsLawful before → IsHeldAt before task at → is_number task (held_in event) ≡ false
    → is_number at (released_in event) ≡ false → ends event before task ≡ false → quits before task ≡ quits (event ∷ before) task
same_quits event before task at lawful kept other stays lives =
    elim (cases_Bool (quits before task)) [
      | inl here ↦
          let parts = and_parts (is_at_open_terminate before task) (not (has_ended before task)) here in
          let is = at_terminate before task parts.0 (not-true (has_ended before task) parts.1) in
          let there : at ≡ is.at = held_there before task at is.at lawful kept is.suspended in
          here
          ∙ sym (terminate_at (event ∷ before) task (record {
            at = is.at;
            wait = is.wait;
            waits = record { event = is.waits.event; stands = event_at-older event before is.at is.waits.event is.waits.stands; says = is.waits.says };
            suspended = suspended_later event before task is.at is.suspended (subst (λ (n : ℕ). is_number n (released_in event) ≡ false) there stays) lives;
            terminates = is.terminates;
          }))
      | inr not_here ↦ not_here ∙ sym (no_terminate (event ∷ before) task
          (λ is. true≢false (sym (terminate_at before task (terminate_later event before task other is)) ∙ not_here)))
    ]

-- a task's latest suspension stays what it is where the event neither holds it up, nor releases it, nor ends it, but for
-- what becomes of a call with which a rendezvous begins, and for an exception that ends one
pub suspension_later : (event : Event) (before : List Event) (task : ℕ) (kept : Suspension) (joined : Bool) (outcome : Outcome) → IsLawful (event ∷ before)
    → IsSuspensionOf before task kept → is_number task (held_in event) ≡ false → is_number kept.at (released_in event) ≡ false → ends event before task ≡ false
    → (0 < kept.at → joined ≡ is_met (event ∷ before) kept.at) → outcome ≡ latest_outcome (event ∷ before) task
    → IsSuspensionOf (event ∷ before) task (record kept { joined = joined; outcome = outcome })
suspension_later event before task kept joined outcome lawful old other stays lives joins becomes = record {
  at = held_same event before task kept.at old.at other stays lives;
  joined = joins;
  quittable = old.quittable ∙ same_quits event before task kept.at lawful.0 old.at other stays lives;
  outcome = becomes;
}

not_some : (n : ℕ) (o : Option ℕ) → is_number n o ≡ false → o ≡ Some n → ⊥
not_some n o other is = true≢false (sym (is_number-from n o is) ∙ other)

pub same_outcome : (event : Event) (before : List Event) (task at : ℕ) → IsLawful (event ∷ before) → IsHeldAt before task at
    → is_number task (held_in event) ≡ false → is_number task (raised_in event) ≡ false → is_number at (released_in event) ≡ false
    → latest_outcome before task ≡ latest_outcome (event ∷ before) task
same_outcome event before task at lawful kept other unraised stays =
    sym (others_keep_outcomes event before task lawful (not_some task (held_in event) other) (not_some task (raised_in event) unraised)
    (λ p frees held. not_some at (released_in event) stays (frees ∙ ap Some (sym (held_there before task at p lawful.0 kept held)))))

-- an event that doesn't touch a task leaves its latest suspension
pub suspension_same : (event : Event) (before : List Event) (task : ℕ) (kept : Suspension) → IsLawful (event ∷ before) → IsSuspensionOf before task kept
    → is_number task (held_in event) ≡ false → is_number task (raised_in event) ≡ false → is_number kept.at (released_in event) ≡ false
    → is_some_and (meeting_in event) (λ (m : Meeting). eqb m.call kept.at) ≡ false → ends event before task ≡ false → IsSuspensionOf (event ∷ before) task kept
suspension_same event before task kept lawful old other unraised stays unmet lives =
    suspension_later event before task kept kept.joined kept.outcome lawful old other stays lives
    (λ some. old.joined some ∙ sym (unmet_same event before kept.at unmet))
    (old.outcome ∙ same_outcome event before task kept.at lawful old.at other unraised stays)

newest_quits : (event : Event) (before : List Event) (task : ℕ) → IsLawful (event ∷ before) → held_in event ≡ Some task
    → waits_at_open_terminate event ≡ quits (event ∷ before) task
newest_quits event before task lawful holds =
    elim (cases_Bool (waits_at_open_terminate event)) [
      | inl here ↦
          let (w, says, terminates) = option_map_or-true (λ (w : Wait). is_open_terminate w.tail) (wait_in event) here in
          here
          ∙ sym (terminate_at (event ∷ before) task (record {
            at = suc (length before);
            wait = w;
            waits = record { event = event; stands = event_at-newest event before; says = says };
            suspended = (held_newest event before task lawful holds).held (omega arith);
            terminates = terminates;
          }))
      | inr not_here ↦
          not_here
          ∙ sym (no_terminate (event ∷ before) task (λ is.
          let place : suc (length before) ≡ is.at = held_there (event ∷ before) task (suc (length before)) is.at lawful
          (held_newest event before task lawful holds) is.suspended in
          let one : is.waits.event ≡ event = same_Some is.waits.event event
          (sym is.waits.stands ∙ ap (event_at (event ∷ before)) (sym place) ∙ event_at-newest event before) in
          let says : wait_in event ≡ Some is.wait = ap wait_in (sym one) ∙ is.waits.says in
          true≢false (sym is.terminates ∙ option_map_or-false (λ (w : Wait). is_open_terminate w.tail) (wait_in event) is.wait not_here says)))
    ]

-- who is held up by the newest event is suspended at it
pub suspension_held : (event : Event) (before : List Event) (task : ℕ) → IsLawful (event ∷ before) → held_in event ≡ Some task
    → IsSuspensionOf (event ∷ before) task (held (suc (length before)) (waits_at_open_terminate event))
suspension_held event before task lawful holds = record {
  at = held_newest event before task lawful holds;
  joined = λ some. sym (next_unmet event before (suc (length before)) (hold_only event task holds).meets refl lawful);
  quittable = newest_quits event before task lawful holds;
  outcome = sym (holds_are_held event before task lawful holds);
}

unsuspended_quits : (journal : List Event) (task : ℕ) → IsHeldAt journal task 0 → quits journal task ≡ false
unsuspended_quits journal task free =
    no_terminate journal task (λ is. true≢false (sym (is_suspended-from journal task is.at is.suspended) ∙ free.free refl))

-- what a task is suspended at is released
pub suspension_released : (event : Event) (before : List Event) (task position : ℕ) → IsLawful (event ∷ before) → IsSuspendedAt before task position
    → released_in event ≡ Some position → IsSuspensionOf (event ∷ before) task
    (record { at = 0; joined = false; quittable = false; outcome = released_to before event })
suspension_released event before task position lawful held frees =
    let free = held_released event before task position lawful held frees (release_only event position frees).holds in
    record {
      at = free;
      joined = λ some. absurd (omega (arith, some));
      quittable = sym (unsuspended_quits (event ∷ before) task free);
      outcome = sym (releases_decide event before task position lawful frees held);
    }

-- an event that ends a task holds nobody up, releases nothing and raises nothing
pub record OnlyEnds (event : Event) : Type 0 where
  pub holds : held_in event ≡ None
  pub releases : released_in event ≡ None
  pub raises : raised_in event ≡ None
  pub meets : meeting_in event ≡ None

completes_only : (e : Event) (u : ℕ) → completed_in e ≡ Some u → OnlyEnds e
unfolding completed_in held_in released_in raised_in meeting_in
completes_only (Completed by) u says = record { holds = refl; releases = refl; raises = refl; meets = refl }
completes_only (Elaborated by false) u says = record { holds = refl; releases = refl; raises = refl; meets = refl }
completes_only (Elaborated by true) u says = absurd (none-some u says)
completes_only (Halted task) u says = record { holds = refl; releases = refl; raises = refl; meets = refl }
completes_only _ u says = absurd (none-some u says)

goes_only : (e : Event) (u : ℕ) → gone_in e ≡ Some u → OnlyEnds e
unfolding gone_in held_in released_in raised_in meeting_in
goes_only (Gone task) u says = record { holds = refl; releases = refl; raises = refl; meets = refl }
goes_only _ u says = absurd (none-some u says)

quits_only : (e : Event) (m : Master) → quit_in e ≡ Some m → OnlyEnds e
unfolding quit_in held_in released_in raised_in meeting_in
quits_only (Quit master) m says = record { holds = refl; releases = refl; raises = refl; meets = refl }
quits_only _ m says = absurd (none-some m says)

pub ends_only : (event : Event) (before : List Event) (task : ℕ) → ends event before task ≡ true → OnlyEnds event
ends_only event before task ended =
    elim (or_cases (is_number task (completed_in event))
    (is_number task (gone_in event) || option_map_or (depends_on before task) (quit_in event) false) ended) [
      | inl completes ↦ completes_only event task (is_number-some task (completed_in event) completes)
      | inr terminates ↦
          elim (or_cases (is_number task (gone_in event)) (option_map_or (depends_on before task) (quit_in event) false) terminates) [
            | inl goes ↦ goes_only event task (is_number-some task (gone_in event) goes)
            | inr quit ↦
                let (m, says, depends) = option_map_or-true (depends_on before task) (quit_in event) quit in
                quits_only event m says
          ]
    ]

-- a task has ended
pub suspension_ended : (event : Event) (before : List Event) (task : ℕ) (kept : Suspension) → IsLawful (event ∷ before) → IsSuspensionOf before task kept
    → ends event before task ≡ true → IsSuspensionOf (event ∷ before) task (record { at = 0; joined = false; quittable = false; outcome = kept.outcome })
suspension_ended event before task kept lawful old ended =
    let only = ends_only event before task ended in
    let free = held_ended event before task ended in
    record {
      at = free;
      joined = λ some. absurd (omega (arith, some));
      quittable = sym (unsuspended_quits (event ∷ before) task free);
      outcome =
          old.outcome
          ∙ same_outcome event before task kept.at lawful old.at (number_none task (held_in event) only.holds) (number_none task (raised_in event) only.raises)
          (number_none kept.at (released_in event) only.releases);
    }
