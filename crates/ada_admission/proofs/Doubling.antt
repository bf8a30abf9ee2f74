-- Tasks that stand twice in a list, found by the flags of those seen from its end on.
use Rattle.std.proofs.Common.{◌≡◌, ℕ, zero, suc, ◌-◌, ◌<◌, ◌≤◌, Bool, true, false, not, ◌||◌, eqb, List, [], ◌∷◌, length, length-set, drop, get_or, set, refl}
use Rattle.std.proofs.Common.{sym, ap, ◌∙◌, subst, arith, inl, inr, drop-cons}
use Rattle.std.proofs.Math.Seq.{drop-length}
use Rattle.std.specs.List.{All, list_any}
use Rattle.std.proofs.lemmas.Bool.{cases_eq, eq-eqb, ne_eqb, and_parts, or_parts, not-false}
use Rattle.std.proofs.lemmas.List.{get_or-set_same, get_or-set_other}
use Rattle.ada_events.specs.declared.event.Event.{Event}
use Rattle.ada_events.specs.declared.limits.TheConstants.{MOST_TASKS}
use Rattle.ada_events.specs.declared.names.TaskNo.{TaskNo}
use Rattle.ada_events.specs.Search.{is_some_and}
use Rattle.ada_events.specs.Says.{Creation}
use Rattle.ada_events.specs.Tasks.{creation_of}
use Rattle.ada_events.specs.Phases.{lists_task, has_start}
use Rattle.ada_events.specs.Lawful.{IsLawful}
use Rattle.ada_events.specs.Refusals.{may_activate, has_double_task}
use Rattle.ada_laws.proofs.asking.LimitLaws.{tasks_are_few}
use Rattle.ada_laws.proofs.searching.Searching.{option_map_or-true}
use Rattle.ada_records.proofs.following.Entries.{creation_exists}

own_is_few : (journal : List Event) (by task : ℕ) → IsLawful journal → not (may_activate journal by task) ≡ false → task < MOST_TASKS
unfolding may_activate
own_is_few journal by task lawful own =
    let made = (and_parts (is_some_and (creation_of journal task) (λ (c : Creation). eqb c.by by))
    (not (has_start journal task)) (not-false (may_activate journal by task) own)).0 in
    let (c, stands, mine) = option_map_or-true (λ (c : Creation). eqb c.by by) (creation_of journal task) made in
    omega (arith, creation_exists journal task c stands, tasks_are_few journal lawful)

-- the numbers of tasks that a task may activate are few
pub own_are_few : (journal : List Event) (by : ℕ) (tasks : List TaskNo) → IsLawful journal
    → list_any (λ (t : TaskNo). not (may_activate journal by t.0)) tasks ≡ false → All (λ (t : TaskNo). t.0 < MOST_TASKS) tasks
own_are_few journal by tasks lawful own =
    each tasks own
  where
    each : (ts : List TaskNo) → list_any (λ (t : TaskNo). not (may_activate journal by t.0)) ts ≡ false → (k : ℕ) (d : TaskNo) → k < length ts
        → (get_or ts k d).0 < MOST_TASKS
    each [] none k d below = absurd (omega (arith, below))
    each (t ∷ rest) none zero d below = own_is_few journal by t.0 lawful (or_parts (not (may_activate journal by t.0)) _ none).0
    each (t ∷ rest) none (suc k) d below =
        each rest (or_parts (not (may_activate journal by t.0)) _ none).1 k d (omega (arith, below))

-- the flags are those of the tasks that stand in a list from a place on, where none stands twice
pub record HasSeen (tasks : List TaskNo) (seen : List Bool) (left : ℕ) : Type 0 where
  pub within : left ≤ length tasks
  pub many : length seen ≡ MOST_TASKS
  pub each : (task : ℕ) → task < MOST_TASKS → get_or seen task false ≡ lists_task task (drop left tasks)
  pub single : has_double_task (drop left tasks) ≡ false

pub none_seen : (tasks : List TaskNo) (seen : List Bool) → length seen ≡ MOST_TASKS → ((task : ℕ) → task < MOST_TASKS → get_or seen task false ≡ false)
    → HasSeen tasks seen (length tasks)
unfolding has_double_task
none_seen tasks seen many none = record {
  within = omega arith;
  many = many;
  each = λ task below. none task below ∙ sym (ap (lists_task task) (drop-length tasks));
  single = ap has_double_task (drop-length tasks);
}

from_there : (tasks : List TaskNo) (n : ℕ) (d : TaskNo) → 0 < n → n ≤ length tasks → drop (n - 1) tasks ≡ get_or tasks (n - 1) d ∷ drop n tasks
from_there tasks n d low high =
    drop-cons tasks (n - 1) d (omega arith)
    ∙ ap (λ k. get_or tasks (n - 1) d ∷ drop k tasks) (let e : suc (n - 1) ≡ n = omega arith in e)

-- one more that wasn't seen
pub one_seen : (tasks : List TaskNo) (seen : List Bool) (n place : ℕ) (d : TaskNo) → 0 < n → HasSeen tasks seen n → place ≡ (get_or tasks (n - 1) d).0
    → All (λ (t : TaskNo). t.0 < MOST_TASKS) tasks → get_or seen place false ≡ false → HasSeen tasks (set seen place true) (n - 1)
unfolding has_double_task
one_seen tasks seen n place d low was is few fresh = record {
  within = omega (arith, was.within);
  many = length-set seen place true ∙ was.many;
  each = λ other below. flag other below ∙ ap (λ k. eqb k other || lists_task other (drop n tasks)) is ∙ sym (ap (lists_task other) there);
  single =
      ap has_double_task there ∙ ap (λ k. lists_task k (drop n tasks) || has_double_task (drop n tasks)) (sym is)
      ∙ rw (sym (was.each place here) ∙ fresh, was.single) refl;
}
  where
    there : drop (n - 1) tasks ≡ get_or tasks (n - 1) d ∷ drop n tasks
    there = from_there tasks n d low was.within

    here : place < MOST_TASKS
    here = subst (λ k. k < MOST_TASKS) (sym is) (few (n - 1) d (omega (arith, was.within)))

    flag : (other : ℕ) → other < MOST_TASKS → get_or (set seen place true) other false ≡ (eqb place other || lists_task other (drop n tasks))
    flag other below =
        elim (cases_eq place other) [
          | inl same ↦
              rw (eq-eqb place other same)
              (ap (λ k. get_or (set seen place true) k false) (sym same) ∙ get_or-set_same seen place true false (omega (arith, was.many, here)))
          | inr apart ↦
              rw (ne_eqb place other apart)
              (get_or-set_other seen place other true false (λ back. apart (sym back)) ∙ was.each other below)
        ]

double_later : (n : ℕ) (tasks : List TaskNo) → has_double_task (drop n tasks) ≡ true → has_double_task tasks ≡ true
unfolding has_double_task
double_later zero tasks double = double
double_later (suc n) [] double = double
double_later (suc n) (task ∷ rest) double = rw (double_later n rest double) (or-true (lists_task task.0 rest))
  where
    or-true : (b : Bool) → (b || true) ≡ true
    or-true true = refl
    or-true false = refl

-- one that was seen stands twice
pub seen_twice : (tasks : List TaskNo) (seen : List Bool) (n place : ℕ) (d : TaskNo) → 0 < n → HasSeen tasks seen n → place ≡ (get_or tasks (n - 1) d).0
    → All (λ (t : TaskNo). t.0 < MOST_TASKS) tasks → get_or seen place false ≡ true → has_double_task tasks ≡ true
unfolding has_double_task
seen_twice tasks seen n place d low was is few known =
    let here : place < MOST_TASKS = subst (λ k. k < MOST_TASKS) (sym is) (few (n - 1) d (omega (arith, was.within))) in
    double_later (n - 1) tasks
    (ap has_double_task (from_there tasks n d low was.within)
    ∙ ap (λ k. lists_task k (drop n tasks) || has_double_task (drop n tasks)) (sym is)
    ∙ rw (sym (was.each place here) ∙ known) refl)
