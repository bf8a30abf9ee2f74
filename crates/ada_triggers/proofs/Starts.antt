-- Tasks that were made and never started, and aren't terminated, and the number below which there is none.
use Rattle.std.proofs.Common.{◌≡◌, ℕ, ◌+◌, ◌<◌, ◌||◌, ◌&&◌, Bool, true, false, not, List, [], ◌∷◌, sym, refl, ◌∙◌, subst, arith, inl, inr}
use Rattle.std.proofs.lemmas.Bool.{true≢false, and_parts, or_cases, or_left, or_right, cases_lt, not-true}
use Rattle.ada_events.specs.declared.event.Event.{Event}
use Rattle.ada_events.specs.Says.{started_in}
use Rattle.ada_events.specs.Phases.{lists_task, has_start, is_terminated}
use Rattle.ada_laws.proofs.within.Depending.{created_positive}
use Rattle.ada_laws.proofs.searching.Growing.{is_terminated-more}
use Rattle.ada_step_laws.specs.declared.row.Row.{Row}
use Rattle.ada_step_laws.specs.declared.row.Row.TheVariants.{Terminating}
use Rattle.ada_agenda.specs.Keeping.{has_key, Puts, AsKey, When}
use Rattle.ada_agenda.specs.Keeping.AsKey.{itself}
use Rattle.ada_agenda.specs.Keeping.When.{holds_so}
use Rattle.ada_agenda.proofs.Noting.{grows_same}
use Rattle.ada_triggers.specs.Bounds.{IsStartBound}
use Rattle.ada_triggers.specs.internal.Keys.{OfFirst, AsUnstarted, may_be_abandoned}
use Rattle.ada_triggers.specs.internal.Keys.AsUnstarted.{goes}
use Rattle.ada_triggers.proofs.Putting.{covered_put}

pub main_alone : IsStartBound [] 1
main_alone = record { passed = λ task some below. absurd (omega (arith, some, below)) }

-- who isn't abandoned was started, or is terminated
kept_so : (started terminated : Bool) → (not started && not terminated) ≡ false → (started || terminated) ≡ true
kept_so true terminated kept = refl
kept_so false true kept = refl
kept_so false false kept = sym kept

-- a bound goes past a task that isn't abandoned
pub bound_past : (journal : List Event) (bound : ℕ) → IsStartBound journal bound → may_be_abandoned journal bound ≡ false
    → IsStartBound journal (bound + 1)
bound_past journal bound is kept = record {
  passed = λ task some below.
      elim (cases_lt task bound) [
        | inl older ↦ is.passed task some older
        | inr newest ↦
            let same : bound ≡ task = omega (arith, below, newest) in
            subst (λ n. (has_start journal n || is_terminated journal n) ≡ true) same (kept_so (has_start journal bound) (is_terminated journal bound) kept)
      ];
}

-- a bound stays one with one more event
pub bound_stays : (event : Event) (before : List Event) (bound : ℕ) → IsStartBound before bound → IsStartBound (event ∷ before) bound
unfolding has_start
bound_stays event before bound is = record {
  passed = λ task some below.
      elim (or_cases (has_start before task) (is_terminated before task) (is.passed task some below)) [
        | inl started ↦
            or_left (has_start (event ∷ before) task) (is_terminated (event ∷ before) task)
            (or_right (lists_task task (started_in event)) (has_start before task) started)
        | inr terminated ↦
            or_right (has_start (event ∷ before) task) (is_terminated (event ∷ before) task) (is_terminated-more event before task terminated)
      ];
}

unstarted_key : (journal : List Event) (task : ℕ) (so : Bool) (row : Row) (key : ℕ) → so ≡ may_be_abandoned journal task
    → AsUnstarted journal task row key → When so (AsKey Terminating task) row key
unstarted_key journal task so row key so_is (goes creation made may) = holds_so (so_is ∙ may) itself

pub unstarted_put : (journal : List Event) (old new : List (List ℕ)) (task : ℕ) (so : Bool) → so ≡ may_be_abandoned journal task
    → Puts old new (When so (AsKey Terminating task)) → Puts old new (AsUnstarted journal task)
unstarted_put journal old new task so so_is puts =
    covered_put old new (AsUnstarted journal task) (When so (AsKey Terminating task)) puts (λ row key of. unstarted_key journal task so row key so_is of)

not_below : (journal : List Event) (old : List (List ℕ)) (bound task : ℕ) (row : Row) (key : ℕ) → IsStartBound journal bound → task < bound
    → AsUnstarted journal task row key → has_key old row key ≡ true
not_below journal old bound task row key is below (goes creation made may) =
    let both = and_parts (not (has_start journal task)) (not (is_terminated journal task)) may in
    absurd
    (elim (or_cases (has_start journal task) (is_terminated journal task) (is.passed task (created_positive journal task creation made) below)) [
      | inl started ↦ true≢false (sym started ∙ not-true (has_start journal task) both.0)
      | inr terminated ↦ true≢false (sym terminated ∙ not-true (is_terminated journal task) both.1)
    ])

-- below the bound there is none to put
pub none_below : (journal : List Event) (old : List (List ℕ)) (bound : ℕ) → IsStartBound journal bound → Puts old old (OfFirst (AsUnstarted journal) bound)
none_below journal old bound is =
    record { grows = grows_same old; here = λ row key first. not_below journal old bound first.task row key is first.among first.of }
