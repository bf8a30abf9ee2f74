-- Flags of the tasks that a list names, one more of them at a time.
use Rattle.std.proofs.Common.{◌≡◌, ℕ, ◌+◌, ◌<◌, ◌≤◌, ◌≢◌, Bool, true, false, eqb, List, length, take, get_or, set, sym, ap, ◌∙◌, arith, inl, inr}
use Rattle.std.proofs.Math.Bool.{or-true, or-false}
use Rattle.std.proofs.lemmas.Bool.{cases_eq, eq-eqb, ne_eqb}
use Rattle.std.proofs.lemmas.List.{get_or-set_same, get_or-set_other}
use Rattle.std.proofs.lemmas.List.Folds.{list_any_more}
use Rattle.ada_events.specs.declared.limits.TheConstants.{MOST_TASKS}
use Rattle.ada_events.specs.declared.names.TaskNo.{TaskNo}
use Rattle.ada_events.specs.Phases.{lists_task}
use Rattle.ada_view.specs.Flags.{AreNamed}

-- the list up to the next task names whom that is
next_named : (tasks : List TaskNo) (i task : ℕ) (d : TaskNo) → i < length tasks → (get_or tasks i d).0 ≡ task
    → lists_task task (take (i + 1) tasks) ≡ true
next_named tasks i task d below is =
    list_any_more (λ (t : TaskNo). eqb t.0 task) tasks i d below ∙ rw (eq-eqb (get_or tasks i d).0 task is) (or-true (lists_task task (take i tasks)))

-- of every other it says what the list before it said
others_named : (tasks : List TaskNo) (i task : ℕ) (d : TaskNo) → i < length tasks → (get_or tasks i d).0 ≢ task
    → lists_task task (take (i + 1) tasks) ≡ lists_task task (take i tasks)
others_named tasks i task d below apart =
    list_any_more (λ (t : TaskNo). eqb t.0 task) tasks i d below ∙ rw (ne_eqb (get_or tasks i d).0 task apart) (or-false (lists_task task (take i tasks)))

-- one more task that a list names
pub named_more : (tasks : List TaskNo) (flags : List Bool) (i place : ℕ) (d : TaskNo) → i < length tasks → length flags ≡ MOST_TASKS
    → place < MOST_TASKS → place ≡ (get_or tasks i d).0 → AreNamed flags (take i tasks) → AreNamed (set flags place true) (take (i + 1) tasks)
named_more tasks flags i place d below many here is told task among =
    elim (cases_eq place task) [
      | inl same ↦
          ap (λ (k : ℕ). get_or (set flags place true) k false) (sym same)
          ∙ get_or-set_same flags place true false (omega (arith, many, here))
          ∙ sym (next_named tasks i task d below (sym is ∙ same))
      | inr apart ↦
          get_or-set_other flags place task true false (λ back. apart (sym back))
          ∙ told task among
          ∙ sym (others_named tasks i task d below (λ same. apart (is ∙ same)))
    ]

-- one more, whose number is too high for a task
pub named_past : (tasks : List TaskNo) (flags : List Bool) (i place : ℕ) (d : TaskNo) → i < length tasks → MOST_TASKS ≤ place
    → place ≡ (get_or tasks i d).0 → AreNamed flags (take i tasks) → AreNamed flags (take (i + 1) tasks)
named_past tasks flags i place d below past is told task among =
    told task among
    ∙ sym (others_named tasks i task d below (λ same. let there : place ≡ task = is ∙ same in omega (arith, there, past, among)))
