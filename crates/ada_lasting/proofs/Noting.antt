-- What is noted of the tasks that a request names: one that was given up, or nothing, if each has a name or was never made.
use Rattle.std.proofs.Common.{◌≡◌, ◌⊎◌, ℕ, true, false, not, ◌==◌, Option, Some, None, List, [], ◌∷◌, refl, sym, subst, inl, inr}
use Rattle.std.specs.Prelude.{nat_lt}
use Rattle.std.specs.Option.{is_some, option_map_or}
use Rattle.std.proofs.lemmas.Bool.{cases_Bool, or_parts, or_left, or_right, not-false, and_from, ltb-true, eq-eqb}
use Rattle.std.proofs.lemmas.Option.{none-some, same_Some}
use Rattle.ada_events.specs.declared.request.Request.{Request}
use Rattle.ada_events.specs.declared.names.TaskNo.{TaskNo}
use Rattle.ada_events.specs.Search.{is_number}
use Rattle.ada_events.specs.Phases.{lists_task}
use Rattle.ada_events.specs.Asks.{asker, named_tasks}
use Rattle.ada_lasting.specs.Naming.{Naming, found}
use Rattle.ada_lasting.specs.Refusing.{names_task, IsGivenUp}
use Rattle.ada_lasting.specs.internal.Nameable.{is_nameable, are_nameable, names_nameable, noted, all_noted, noted_by}

-- a task that isn't nameable was given up
unnameable : (names : Naming) (task : ℕ) → is_nameable names task ≡ false → IsGivenUp names task
unnameable names task is =
    let parts = or_parts (not (nat_lt task names.made)) (is_some (found names.tasks task)) is in
    (ltb-true task names.made (not-false (nat_lt task names.made) parts.0), no_name (found names.tasks task) parts.1)
  where
    no_name : (o : Option ℕ) → is_some o ≡ false → o ≡ None
    no_name None none = refl
    no_name (Some v) none = absurd cc

noted_none : (names : Naming) (task : ℕ) (before : Option ℕ) → noted names task before ≡ None → (before ≡ None) × (is_nameable names task ≡ true)
noted_none names task before is = elim (cases_Bool (is_nameable names task)) [
  | inl has ↦ (rw has at is, has)
  | inr lost ↦ absurd (none-some task (sym (rw lost at is)))
]

noted_some : (names : Naming) (task : ℕ) (before : Option ℕ) (which : ℕ) → noted names task before ≡ Some which
    → (before ≡ Some which) ⊎ ((task ≡ which) × IsGivenUp names task)
noted_some names task before which is = elim (cases_Bool (is_nameable names task)) [
  | inl has ↦ inl (rw has at is)
  | inr lost ↦ inr (same_Some task which (rw lost at is), unnameable names task lost)
]

all_none : (names : Naming) (tasks : List TaskNo) (before : Option ℕ) → all_noted names tasks before ≡ None
    → (before ≡ None) × (are_nameable names tasks ≡ true)
unfolding all_noted are_nameable
all_none names [] before is = (is, refl)
all_none names (task ∷ rest) before is =
    let (between, others) = all_none names rest (noted names task.0 before) is in
    let (none, has) = noted_none names task.0 before between in
    (none, and_from (is_nameable names task.0) (are_nameable names rest) has others)

all_some : (names : Naming) (tasks : List TaskNo) (before : Option ℕ) (which : ℕ) → all_noted names tasks before ≡ Some which
    → (before ≡ Some which) ⊎ ((lists_task which tasks ≡ true) × IsGivenUp names which)
unfolding all_noted
all_some names [] before which is = inl is
all_some names (task ∷ rest) before which is = elim (all_some names rest (noted names task.0 before) which is) [
  | inl between ↦ elim (noted_some names task.0 before which between) [
    | inl first ↦ inl first
    | inr (same, lost) ↦ inr (or_left (task.0 == which) (lists_task which rest) (eq-eqb task.0 which same), subst (IsGivenUp names) same lost)
  ]
  | inr (listed, lost) ↦ inr (or_right (task.0 == which) (lists_task which rest) listed, lost)
]

asker_none : (names : Naming) (o : Option ℕ) → option_map_or (λ task. noted names task None) o None ≡ None → option_map_or (is_nameable names) o true ≡ true
asker_none names None is = refl
asker_none names (Some task) is = (noted_none names task None is).1

asker_some : (names : Naming) (o : Option ℕ) (which : ℕ) → option_map_or (λ task. noted names task None) o None ≡ Some which
    → (is_number which o ≡ true) × IsGivenUp names which
asker_some names None which is = absurd (none-some which is)
asker_some names (Some task) which is = elim (noted_some names task None which is) [
  | inl nothing ↦ absurd (none-some which nothing)
  | inr (same, lost) ↦ (eq-eqb which task (sym same), subst (IsGivenUp names) same lost)
]

-- where nothing is noted, each task that the request names has a name or was never made
pub nothing_noted : (names : Naming) (request : Request) → noted_by names request None ≡ None → names_nameable names request ≡ true
unfolding noted_by names_nameable
nothing_noted names request is =
    let (asks, others) = all_none names (named_tasks request) (option_map_or (λ task. noted names task None) (asker request) None) is in
    and_from (option_map_or (is_nameable names) (asker request) true) (are_nameable names (named_tasks request)) (asker_none names (asker request) asks)
    others

-- a task that is noted is named by the request, and was given up
pub noted_task : (names : Naming) (request : Request) (which : ℕ) → noted_by names request None ≡ Some which
    → (names_task request which ≡ true) × IsGivenUp names which
unfolding noted_by
noted_task names request which is =
    elim (all_some names (named_tasks request) (option_map_or (λ task. noted names task None) (asker request) None) which is) [
      | inl asks ↦
          let (named, lost) = asker_some names (asker request) which asks in
          (or_left (is_number which (asker request)) (lists_task which (named_tasks request)) named, lost)
      | inr (listed, lost) ↦ (or_right (is_number which (asker request)) (lists_task which (named_tasks request)) listed, lost)
    ]
