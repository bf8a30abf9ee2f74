-- What a kernel keeps of a task tells at which position it is suspended.
use Rattle.std.proofs.Common.{◌≡◌, ℕ, zero, suc, ◌<◌, ◌==◌, ◌&&◌, ltb, Bool, true, false, List}
use Rattle.std.proofs.Common.{refl, sym, subst, ◌∙◌, arith}
use Rattle.std.specs.Cmp.{both_ways}
use Rattle.std.proofs.lemmas.Bool.{true≢false, and_parts, and_from, eq-eqb, eqb-true, ltb-true, lt-ltb}
use Rattle.ada_events.specs.declared.event.Event.{Event}
use Rattle.ada_events.specs.Tasks.{has_task, task_count}
use Rattle.ada_events.specs.Lawful.{IsLawful}
use Rattle.ada_laws.specs.Suspension.{IsSuspendedAt}
use Rattle.ada_laws.proofs.held.Suspending.{is_suspended-from, suspended_exists, suspended_once}
use Rattle.ada_laws.proofs.searching.Searching.{is_number-some, is_number-from}
use Rattle.ada_step_laws.specs.Held.{IsHeldAt}
use Rattle.ada_step_laws.proofs.changing.Existing.{positive}
use Rattle.ada_waiting.specs.Reasons.{suspended_at}
use Rattle.ada_waiting.proofs.Holding.{suspended_at_is, suspended_at_from}
use Rattle.ada_behaviours.specs.Moves.{is_held_at}

-- a task is suspended at a position if that is kept of it, and is a position
module _ (journal : List Event) (task at position : ℕ) (lawful : IsLawful journal) (right : IsHeldAt journal task at) where
  kept_held : (ltb 0 position && at == position) ≡ true → is_held_at journal position task ≡ true
  kept_held both =
      let parts = and_parts (ltb 0 position) (at == position) both in
      let same : at ≡ position = eqb-true at position parts.1 in
      let above : 0 < position = ltb-true 0 position parts.0 in
      let held = subst (λ (p : ℕ). IsSuspendedAt journal task p) same (right.held (omega (arith, same, above))) in
      is_number-from position (suspended_at journal task) (suspended_at_is journal task position lawful held)

  held_kept : is_held_at journal position task ≡ true → (ltb 0 position && at == position) ≡ true
  held_kept held =
      let there = suspended_at_from journal task position (is_number-some position (suspended_at journal task) held) in
      and_from (ltb 0 position) (at == position) (lt-ltb 0 position (above position there))
      (eq-eqb at position (kept at refl there))
    where
      above : (p : ℕ) → IsSuspendedAt journal task p → 0 < p
      above zero there = absurd (positive journal there.event there.stands)
      above (suc n) there = omega arith

      kept : (p : ℕ) → p ≡ at → IsSuspendedAt journal task position → at ≡ position
      kept zero is there =
          absurd (true≢false (sym (is_suspended-from journal task position there) ∙ right.free (sym is)))
      kept (suc n) is there =
          suspended_once journal task at position lawful (right.held (omega (arith, is))) there

  pub kept_place : (ltb 0 position && at == position) ≡ is_held_at journal position task
  kept_place = both_ways (ltb 0 position && at == position) (is_held_at journal position task) kept_held held_kept

-- a task that doesn't exist is suspended nowhere
pub unknown_nowhere : (journal : List Event) (task position : ℕ) → IsLawful journal → has_task journal task ≡ false
    → false ≡ is_held_at journal position task
unknown_nowhere journal task position lawful unknown = by (is_held_at journal position task) refl
  where
    by : (b : Bool) → is_held_at journal position task ≡ b → false ≡ b
    by false is = refl
    by true is =
        let held = suspended_at_from journal task position (is_number-some position (suspended_at journal task) is) in
        let known = lt-ltb task (task_count journal) (suspended_exists journal task position lawful held) in
        sym unknown ∙ known
