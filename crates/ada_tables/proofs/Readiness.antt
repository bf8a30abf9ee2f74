-- Who lives of those that depend on a master is ready to quit, or isn't.
use Rattle.std.proofs.Common.{◌≡◌, ℕ, zero, suc, ◌+◌, Bool, true, false, not, ◌&&◌, eqb, List, length, refl, sym, ◌∙◌, arith, inl, inr}
use Rattle.std.specs.Prelude.{if◌then◌else◌}
use Rattle.std.proofs.lemmas.Bool.{cases_eq, eq-eqb, ne_eqb}
use Rattle.ada_events.specs.declared.names.Master.{Master}
use Rattle.ada_tables.specs.Queues.{QueuedCall}
use Rattle.ada_tables.specs.declared.phase.Phase.{Phase}
use Rattle.ada_tables.specs.declared.phase.Phase.TheVariants.{Unstarted, Active, Held, Quittable, Completed, Terminated}
use Rattle.ada_tables.specs.Dependents.{Facts, task_at, depends_on, is_terminated, count_below, is_live_dependent, live_dependents}
use Rattle.ada_tables.specs.Tables.{has_no_calls, is_quittable, is_ready, is_unready, unready_dependents, ready_dependents}

one_of_two : (p : Phase) (empty depends : Bool) → (if not (is_terminated p) && depends then 1 else 0)
    ≡ (if (is_quittable p && empty) && depends then 1 else 0) + (if (not (is_terminated p) && not (is_quittable p && empty)) && depends then 1 else 0)
one_of_two Terminated empty depends = refl
one_of_two Quittable true true = refl
one_of_two Quittable true false = refl
one_of_two Quittable false true = refl
one_of_two Quittable false false = refl
one_of_two Unstarted empty true = refl
one_of_two Unstarted empty false = refl
one_of_two Active empty true = refl
one_of_two Active empty false = refl
one_of_two Held empty true = refl
one_of_two Held empty false = refl
one_of_two Completed empty true = refl
one_of_two Completed empty false = refl

count_parted : (all some others : ℕ → Bool) → ((k : ℕ) → (if all k then 1 else 0) ≡ (if some k then 1 else 0) + (if others k then 1 else 0)) → (many : ℕ)
    → count_below all many ≡ count_below some many + count_below others many
unfolding count_below
count_parted all some others parted zero = refl
count_parted all some others parted (suc n) = omega (arith, count_parted all some others parted n, parted n)

live_parted : (tasks : List Facts) (queues : List (List QueuedCall)) (master : Master)
    → live_dependents tasks master ≡ ready_dependents tasks queues master + unready_dependents tasks queues master
live_parted tasks queues master =
    count_parted (is_live_dependent tasks master) (λ task. is_ready tasks queues task && depends_on tasks task master)
    (λ task. is_unready tasks queues task && depends_on tasks task master)
    (λ task. one_of_two (task_at tasks task).phase (has_no_calls tasks queues task) (depends_on tasks task master)) (length tasks)

-- all that live are ready where none is unready
pub ready_all : (tasks : List Facts) (queues : List (List QueuedCall)) (master : Master)
    → eqb (live_dependents tasks master) (ready_dependents tasks queues master) ≡ eqb (unready_dependents tasks queues master) 0
ready_all tasks queues master =
    let parts : live_dependents tasks master ≡ ready_dependents tasks queues master + unready_dependents tasks queues master =
    live_parted tasks queues master in
    elim (cases_eq (unready_dependents tasks queues master) 0) [
      | inl none ↦
          eq-eqb (live_dependents tasks master) (ready_dependents tasks queues master) (omega (arith, parts, none))
          ∙ sym (eq-eqb (unready_dependents tasks queues master) 0 none)
      | inr some ↦
          ne_eqb (live_dependents tasks master) (ready_dependents tasks queues master) (λ same. some (omega (arith, parts, same)))
          ∙ sym (ne_eqb (unready_dependents tasks queues master) 0 some)
    ]
