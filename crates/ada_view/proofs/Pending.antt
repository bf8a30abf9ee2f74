-- What a record tells of what its task does.
use Rattle.std.proofs.Common.{◌≡◌, ℕ, zero, suc, Bool, true, false, not, ◌&&◌, eqb, Option, Some, None, List, refl, sym, ◌∙◌, subst, arith}
use Rattle.std.specs.Option.{option_and_then}
use Rattle.std.proofs.lemmas.Option.{none-some}
use Rattle.std.proofs.lemmas.Bool.{eq-eqb, ne_eqb, false≢true}
use Rattle.ada_events.specs.declared.event.Event.{Event}
use Rattle.ada_events.specs.Search.{event_at}
use Rattle.ada_events.specs.Says.{held_in}
use Rattle.ada_events.specs.Phases.{has_ended, is_released}
use Rattle.ada_events.specs.Calls.{is_pending}
use Rattle.ada_events.specs.Lawful.{IsLawful}
use Rattle.ada_laws.specs.Suspension.{IsSuspendedAt}
use Rattle.ada_laws.proofs.held.Suspending.{is_suspended-from, suspended_once}
use Rattle.ada_step_laws.proofs.changing.Existing.{positive}
use Rattle.ada_step_laws.specs.Held.{IsHeldAt}

-- a task that is suspended at a position is held there
pub held_there : (journal : List Event) (task kept at : ℕ) → IsLawful journal → IsHeldAt journal task kept → IsSuspendedAt journal task at → kept ≡ at
held_there journal task kept at lawful held there = of_kept kept held
  where
    of_kept : (k : ℕ) → IsHeldAt journal task k → k ≡ at
    of_kept zero h = absurd (false≢true (sym (h.free refl) ∙ is_suspended-from journal task at there))
    of_kept (suc n) h = suspended_once journal task (suc n) at lawful (h.held (omega arith)) there

-- the event that holds the task up
pub holding_event : (o : Option Event) (task : ℕ) → option_and_then held_in o ≡ Some task → (e : Event) × (o ≡ Some e) × (held_in e ≡ Some task)
holding_event None task holds = absurd (none-some task holds)
holding_event (Some e) task holds = (e, refl, holds)

-- what holds a task up is pending exactly where its record says so
pub pending_told : (journal : List Event) (task kept at : ℕ) (e : Event) → IsLawful journal → IsHeldAt journal task kept → event_at journal at ≡ Some e
    → held_in e ≡ Some task → eqb kept at ≡ is_pending journal at task
unfolding is_pending
pending_told journal task kept at e lawful held stands holds = by_flags (is_released journal at) refl (has_ended journal task) refl
  where
    there : is_released journal at ≡ false → has_ended journal task ≡ false → IsSuspendedAt journal task at
    there unreleased live = record { event = e; stands = stands; holds = holds; unreleased = unreleased; live = live }

    elsewhere : (k : ℕ) → IsHeldAt journal task k → (IsSuspendedAt journal task at → ⊥) → eqb k at ≡ false
    elsewhere zero h none = ne_eqb zero at (λ same. positive journal e (subst (λ (n : ℕ). event_at journal n ≡ Some e) (sym same) stands))
    elsewhere (suc n) h none = ne_eqb (suc n) at (λ same. none (subst (IsSuspendedAt journal task) same (h.held (omega arith))))

    by_flags : (r : Bool) → is_released journal at ≡ r → (d : Bool) → has_ended journal task ≡ d → eqb kept at ≡ (not r && not d)
    by_flags true released d ended = elsewhere kept held (λ is. false≢true (sym is.unreleased ∙ released))
    by_flags false released true ended = elsewhere kept held (λ is. false≢true (sym is.live ∙ ended))
    by_flags false released false ended = eq-eqb kept at (held_there journal task kept at lawful held (there released ended))
