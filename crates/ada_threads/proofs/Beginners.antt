-- Threads lose their marks one task after the other, in the order of those that began to run.
use Rattle.std.proofs.Common.{◌≡◌, ℕ, ◌+◌, ◌<◌, Bool, true, false, not, cond, Option, Some, None, List, [], ◌∷◌, map, refl, sym, ap, ◌∙◌, inl, inr, arith}
use Rattle.std.specs.Prelude.{◌==◌, ◌&&◌, nat_le, nat_lt, slice_index_or}
use Rattle.std.specs.Bool.{then_some}
use Rattle.std.proofs.lemmas.Bool.{and_parts, cases_lt, eq-eqb, le-leb, le-ltb, lt-ltb, true≢false}
use Rattle.std.proofs.lemmas.List.Elements.{All-map}
use Rattle.std.proofs.lemmas.Option.{none-some, same_Some}
use Rattle.ada_events.specs.declared.event.Event.{Event}
use Rattle.ada_events.specs.Phases.{is_running}
use Rattle.ada_events.specs.Tasks.{has_task, task_count}
use Rattle.ada_standing.proofs.alike.Searches.{IsFirst, nothing, found, below_bound, first_below-is, given_below}
use Rattle.ada_lasting.specs.Following.{Long, before_shown}
use Rattle.ada_lasting.specs.LastRequest.{first_began}
use Rattle.ada_threads.specs.declared.thread.Thread.{Thread}
use Rattle.ada_threads.specs.Going.{AreHeldRightly, is_held_up, unmarked}
use Rattle.ada_threads.specs.internal.Settling.{AreUnmarked, AreUnmarkedBelow, has_begun, unmarked_of}

-- ---- the first one that began to run

-- who is found by that search
abbrev newly : List Event → Long → ℕ → ℕ → Option ℕ
newly journal kernel from t =
    then_some (nat_le from t && (is_running journal t && not (is_running (before_shown journal kernel) t))) t

not_newly : (has above begun : Bool) (t : ℕ) → cond has (then_some (above && begun) t) None ≡ None → above ≡ true → (has && begun) ≡ false
not_newly false above begun t none from = refl
not_newly true true false t none from = refl
not_newly true true true t none from = absurd (none-some t (sym none))
not_newly true false begun t none from = absurd (true≢false (sym from))

unbegun : (journal : List Event) (kernel : Long) (from t : ℕ) → given_below (newly journal kernel from) (task_count journal) t ≡ None
    → nat_le from t ≡ true → has_begun journal kernel t ≡ false
unbegun journal kernel from t none above =
    not_newly (has_task journal t) (nat_le from t) (is_running journal t && not (is_running (before_shown journal kernel) t)) t none above

none_begun : (journal : List Event) (kernel : Long) (from : ℕ) (o : Option ℕ)
    → IsFirst (given_below (newly journal kernel from) (task_count journal)) o → o ≡ None
    → (t : ℕ) → nat_le from t ≡ true → has_begun journal kernel t ≡ false
none_begun journal kernel from o (nothing is none) same t above = unbegun journal kernel from t (none t) above
none_begun journal kernel from o (found k x is gives less) same t above = absurd (none-some x (sym same ∙ is))

then_same : (b : Bool) (t x : ℕ) → then_some b t ≡ Some x → t ≡ x
then_same true t x is = same_Some t x is
then_same false t x is = absurd (none-some x is)

least_begun : (journal : List Event) (kernel : Long) (from task : ℕ) (o : Option ℕ)
    → IsFirst (given_below (newly journal kernel from) (task_count journal)) o → o ≡ Some task
    → (t : ℕ) → nat_le from t ≡ true → t < task → has_begun journal kernel t ≡ false
least_begun journal kernel from task o (nothing is none) same t above below = absurd (none-some task (sym is ∙ same))
least_begun journal kernel from task o (found k x is gives less) same t above below =
    let by = (below_bound (newly journal kernel from) (task_count journal) k x gives).1 in
    let here = then_same (nat_le from k && (is_running journal k && not (is_running (before_shown journal kernel) k))) k x by in
    let there = same_Some x task (sym is ∙ same) in
    unbegun journal kernel from t (less t (omega (arith, below, here, there))) above

-- ---- marks

and_none : (a b : Bool) → b ≡ false → (a && b) ≡ false
and_none true b none = none
and_none false b none = refl

not_so : (a b : Bool) → (a && b) ≡ false → a ≡ true → b ≡ false
not_so true b none so = none
not_so false b none so = absurd (true≢false (sym so))

other_task : (t task : ℕ) → not (t == task) ≡ true → t ≡ task → true ≡ false
other_task t task other same = sym other ∙ ap not (eq-eqb t task same)

next_mark : (is_so : ℕ → Bool) (from task : ℕ) → ((t : ℕ) → nat_le from t ≡ true → t < task → is_so t ≡ false) → (thread : Thread)
    → (thread.is_held ≡ true → (nat_lt thread.task from && is_so thread.task) ≡ false)
    → (thread.is_held && not (thread.task == task)) ≡ true → (nat_lt thread.task (task + 1) && is_so thread.task) ≡ false
next_mark is_so from task least thread earlier held =
    let parts = and_parts thread.is_held (not (thread.task == task)) held in
    elim (cases_lt thread.task from) [
      | inl less ↦
          and_none (nat_lt thread.task (task + 1)) (is_so thread.task)
          (not_so (nat_lt thread.task from) (is_so thread.task) (earlier parts.0) (lt-ltb thread.task from less))
      | inr more ↦ elim (cases_lt thread.task task) [
        | inl before ↦
            and_none (nat_lt thread.task (task + 1)) (is_so thread.task)
            (least thread.task (le-leb from thread.task more) before)
        | inr after ↦
            let other = λ (same : thread.task ≡ task). true≢false (other_task thread.task task parts.1 same) in
            ap (λ b. b && is_so thread.task) (le-ltb thread.task (task + 1) (omega (arith, after, other)))
      ]
    ]

pub next_unmarked : (is_so : ℕ → Bool) (from task : ℕ) (threads : List Thread)
    → ((t : ℕ) → nat_le from t ≡ true → t < task → is_so t ≡ false)
    → AreUnmarkedBelow is_so from threads → AreUnmarkedBelow is_so (task + 1) (map (unmarked_of task) threads)
next_unmarked is_so from task threads least earlier =
    All-map (λ (t : Thread). t.is_held ≡ true → (nat_lt t.task (task + 1) && is_so t.task) ≡ false) (unmarked_of task) threads (λ k d within.
    next_mark is_so from task least (slice_index_or threads k d) (earlier k d within))

pub below_none : (is_so : ℕ → Bool) (threads : List Thread) → AreUnmarkedBelow is_so 0 threads
below_none is_so threads = λ k d within held.
    ap (λ b. b && is_so (slice_index_or threads k d).task) (le-ltb (slice_index_or threads k d).task 0 (omega arith))

-- whoever is marked after all is none of those that began to run
pub all_unmarked : (is_so : ℕ → Bool) (from : ℕ) (threads : List Thread) → ((t : ℕ) → nat_le from t ≡ true → is_so t ≡ false)
    → AreUnmarkedBelow is_so from threads → AreUnmarked is_so threads
all_unmarked is_so from threads none earlier = λ k d within held. by_number (slice_index_or threads k d).task (earlier k d within held)
  where
    by_number : (t : ℕ) → (nat_lt t from && is_so t) ≡ false → is_so t ≡ false
    by_number t before = elim (cases_lt t from) [
      | inl less ↦ not_so (nat_lt t from) (is_so t) before (lt-ltb t from less)
      | inr more ↦ none t (le-leb from t more)
    ]

pub still_rightly : (task : ℕ) (threads : List Thread) (journal : List Event) → AreHeldRightly journal threads
    → AreHeldRightly journal (map (unmarked_of task) threads)
still_rightly task threads journal rightly =
    All-map (λ (t : Thread). t.is_held ≡ true → is_held_up journal t.task ≡ true) (unmarked_of task) threads (λ k d within held.
    rightly k d within (and_parts (slice_index_or threads k d).is_held (not ((slice_index_or threads k d).task == task)) held).0)

pub same_but_marks : (task : ℕ) (threads : List Thread) → map unmarked (map (unmarked_of task) threads) ≡ map unmarked threads
same_but_marks task [] = refl
same_but_marks task (t ∷ rest) = ap (λ (r : List Thread). unmarked t ∷ r) (same_but_marks task rest)

pub found_unbegun : (journal : List Event) (kernel : Long) (from task : ℕ) → Some task ≡ first_began journal kernel from
    → (t : ℕ) → nat_le from t ≡ true → t < task → has_begun journal kernel t ≡ false
found_unbegun journal kernel from task is =
    least_begun journal kernel from task (first_began journal kernel from) (first_below-is (newly journal kernel from) (task_count journal)) (sym is)

pub none_unbegun : (journal : List Event) (kernel : Long) (from : ℕ) → None ≡ first_began journal kernel from
    → (t : ℕ) → nat_le from t ≡ true → has_begun journal kernel t ≡ false
none_unbegun journal kernel from is =
    none_begun journal kernel from (first_began journal kernel from) (first_below-is (newly journal kernel from) (task_count journal)) (sym is)
