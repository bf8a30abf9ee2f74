-- Tasks of objects that stand for one another.
use Rattle.std.proofs.Common.{◌≡◌, ℕ, suc, Bool, true, false, cond, Option, Some, None, List, [], ◌∷◌, map, slice_get, refl, sym, ap, ◌∙◌}
use Rattle.std.specs.Option.{option_map, option_and_then, unwrap_or}
use Rattle.std.proofs.lemmas.Bool.{false≢true}
use Rattle.std.proofs.lemmas.Option.{none-some, same_Some, slice_get-map}
use Rattle.ada_events.specs.declared.names.TaskNo.{TaskNo}
use Rattle.ada_events.specs.Search.{is_number}
use Rattle.ada_events.specs.Forced.{task_no}
use Rattle.ada_standing.specs.Renaming.{Renaming, chained, from_both}
use Rattle.ada_standing.specs.Asking.{asked_task, nobody}
use Rattle.ada_standing.specs.Leading.{KeepsNames}
use Rattle.ada_behaviours.specs.declared.want.ObjectNo.{ObjectNo}
use Rattle.ada_behaviours.specs.Behaviours.{Behaviour}
use Rattle.ada_behaviours.specs.Moves.{Tasks, task_of, tasks_of, named_only, with_made}
use Rattle.ada_behaviours.specs.Same.{renamed_object, AreRenamed}

-- the second of two numbers that may be missing stands for the first one, or both are missing
abbrev pub IsSame : Renaming → Option ℕ → Option ℕ → Type 0
IsSame names one other = renamed_object names one ≡ Some other

-- a task stands for a task
pub record Stands (names : Renaming) (task : ℕ) (other : Option ℕ) : Type 0 where
  pub stand : ℕ
  pub is : other ≡ Some stand
  pub named : names.task task ≡ Some stand

pub stands : (names : Renaming) (task : ℕ) (other : Option ℕ) → IsSame names (Some task) other → Stands names task other
stands names task other same = by (names.task task) other refl same
  where
    by : (o : Option ℕ) (n : Option ℕ) → names.task task ≡ o → option_map Some o ≡ Some n → Stands names task n
    by None n is same = absurd (none-some n same)
    by (Some v) n is same = record { stand = v; is = sym (same_Some (Some v) n same); named = is }

pub none_stands : (names : Renaming) (other : Option ℕ) → IsSame names None other → other ≡ None
none_stands names other same = sym (same_Some None other same)

pub task_alike : (names : Renaming) (tasks other : Tasks) (object : ℕ) → AreRenamed names tasks other
    → IsSame names (task_of tasks object) (task_of other object)
task_alike names tasks other object same =
    by (slice_get tasks object) (slice_get other object)
    (sym (slice_get-map Some other object) ∙ ap (λ (l : List (Option (Option ℕ))). slice_get l object) same
    ∙ slice_get-map (renamed_object names) tasks object)
  where
    by : (a b : Option (Option ℕ)) → option_map Some b ≡ option_map (renamed_object names) a
        → IsSame names (option_and_then (λ found. found) a) (option_and_then (λ found. found) b)
    by None None is = refl
    by (Some a) (Some b) is = sym (same_Some (Some b) (renamed_object names a) is)
    by None (Some b) is = absurd (none-some (Some b) (sym is))
    by (Some a) None is = absurd (none-some (renamed_object names a) is)

-- the task that a request names for one that has a name
pub asked_by_name : (names : Renaming) (u v : ℕ) → names.task u ≡ Some v → asked_task names (task_no u) ≡ task_no v
asked_by_name names u v named = ap (λ (o : Option ℕ). task_no (unwrap_or o nobody)) named

pub tasks_alike : (names : Renaming) (tasks other : Tasks) (objects : List ObjectNo) (all : List TaskNo) → AreRenamed names tasks other
    → tasks_of tasks objects ≡ Some all → tasks_of other objects ≡ Some (map (asked_task names) all)
tasks_alike names tasks other [] all same are = ap (λ ts. Some (map (asked_task names) ts)) (same_Some [] all are)
tasks_alike names tasks other (object ∷ objects) all same are =
    by (task_of tasks object.0) (tasks_of tasks objects) (task_alike names tasks other object.0 same)
    (λ rest is. tasks_alike names tasks other objects rest same is) refl are
  where
    by : (o : Option ℕ) (ts : Option (List TaskNo)) → IsSame names o (task_of other object.0)
        → ((rest : List TaskNo) → tasks_of tasks objects ≡ Some rest → tasks_of other objects ≡ Some (map (asked_task names) rest))
        → tasks_of tasks objects ≡ ts → from_both (λ t us. task_no t ∷ us) o ts ≡ Some all
        → from_both (λ t us. task_no t ∷ us) (task_of other object.0) (tasks_of other objects) ≡ Some (map (asked_task names) all)
    by (Some u) (Some rest) one others is made =
        let there = stands names u (task_of other object.0) one in
        ap (λ o. from_both (λ t us. task_no t ∷ us) o (tasks_of other objects)) there.is
        ∙ ap (from_both (λ t us. task_no t ∷ us) (Some there.stand)) (others rest is)
        ∙ ap (λ t. Some (t ∷ map (asked_task names) rest)) (sym (asked_by_name names u there.stand there.named))
        ∙ ap (λ ts. Some (map (asked_task names) ts)) (same_Some (task_no u ∷ rest) all made)
    by None ts one others is made = absurd (none-some all made)
    by (Some u) None one others is made = absurd (none-some all made)

-- the tasks that may still be named
pub named_alike : {State : Type 0} (behaviour : Behaviour State) (names : Renaming) (state : State) (object : ℕ) (tasks other : Tasks)
    → AreRenamed names tasks other → AreRenamed names (named_only behaviour state object tasks) (named_only behaviour state object other)
named_alike behaviour names state object [] [] same = refl
named_alike behaviour names state object [] (b ∷ other) same = absurd (cc)
named_alike behaviour names state object (a ∷ tasks) [] same = absurd (cc)
named_alike behaviour names state object (a ∷ tasks) (b ∷ other) same =
    let head : Some b ≡ renamed_object names a = cc in
    let later = named_alike behaviour names state (suc object) tasks other (cc) in
    by (behaviour.names state object) head later
  where
    by : (keeps : Bool) → Some b ≡ renamed_object names a
        → AreRenamed names (named_only behaviour state (suc object) tasks) (named_only behaviour state (suc object) other)
        → AreRenamed names (cond keeps a None ∷ named_only behaviour state (suc object) tasks)
        (cond keeps b None ∷ named_only behaviour state (suc object) other)
    by true head later = ap (λ x. x ∷ map Some (named_only behaviour state (suc object) other)) head ∙ ap (λ xs. renamed_object names a ∷ xs) later
    by false head later = ap (λ xs. Some None ∷ xs) later

-- more names
pub kept_alike : (names more : Renaming) (tasks other : Tasks) → KeepsNames names more → AreRenamed names tasks other → AreRenamed more tasks other
kept_alike names more [] [] kept same = refl
kept_alike names more [] (b ∷ other) kept same = absurd (cc)
kept_alike names more (a ∷ tasks) [] kept same = absurd (cc)
kept_alike names more (a ∷ tasks) (b ∷ other) kept same =
    let head : Some b ≡ renamed_object names a = cc in
    let later = kept_alike names more tasks other kept (cc) in
    ap (λ x. x ∷ map Some other) (by a head) ∙ ap (λ xs. renamed_object more a ∷ xs) later
  where
    by : (o : Option ℕ) → Some b ≡ renamed_object names o → Some b ≡ renamed_object more o
    by None is = is
    by (Some u) is =
        let there = stands names u b (sym is) in
        ap Some there.is ∙ sym (ap (option_map Some) (kept.tasks u there.stand there.named))

-- one more task
pub made_alike : (names : Renaming) (made : Option ℕ) (task stand object : ℕ) (tasks other : Tasks)
    → ((o : ℕ) → made ≡ Some o → names.task task ≡ Some stand) → AreRenamed names tasks other
    → AreRenamed names (with_made made task object tasks) (with_made made stand object other)
made_alike names made task stand object [] [] named same = refl
made_alike names made task stand object [] (b ∷ other) named same = absurd (cc)
made_alike names made task stand object (a ∷ tasks) [] named same = absurd (cc)
made_alike names made task stand object (a ∷ tasks) (b ∷ other) named same =
    let head : Some b ≡ renamed_object names a = cc in
    let later = made_alike names made task stand (suc object) tasks other named (cc) in
    by (is_number object made) (is_made made refl) head later
  where
    is_made : (o : Option ℕ) → made ≡ o → is_number object o ≡ true → names.task task ≡ Some stand
    is_made None is here = absurd (false≢true here)
    is_made (Some o) is here = named o is

    by : (here : Bool) → (here ≡ true → names.task task ≡ Some stand) → Some b ≡ renamed_object names a
        → AreRenamed names (with_made made task (suc object) tasks) (with_made made stand (suc object) other)
        → AreRenamed names (cond here (Some task) a ∷ with_made made task (suc object) tasks)
        (cond here (Some stand) b ∷ with_made made stand (suc object) other)
    by true is head later =
        ap (λ x. x ∷ map Some (with_made made stand (suc object) other)) (sym (ap (option_map Some) (is refl)))
        ∙ ap (λ xs. option_map Some (names.task task) ∷ xs) later
    by false is head later =
        ap (λ x. x ∷ map Some (with_made made stand (suc object) other)) head ∙ ap (λ xs. renamed_object names a ∷ xs) later

-- one after the other
pub chained_alike : (names more : Renaming) (first second third : Tasks) → AreRenamed names first second → AreRenamed more second third
    → AreRenamed (chained names more) first third
chained_alike names more [] [] [] same also = refl
chained_alike names more (a ∷ first) (b ∷ second) (c ∷ third) same also =
    let head : Some b ≡ renamed_object names a = cc in
    let next : Some c ≡ renamed_object more b = cc in
    let later = chained_alike names more first second third (cc) (cc) in
    ap (λ x. x ∷ map Some third) (by a b head next) ∙ ap (λ xs. renamed_object (chained names more) a ∷ xs) later
  where
    by : (o n : Option ℕ) → Some n ≡ renamed_object names o → Some c ≡ renamed_object more n → Some c ≡ renamed_object (chained names more) o
    by None n head next = next ∙ ap (renamed_object more) (none_stands names n (sym head))
    by (Some u) n head next =
        let there = stands names u n (sym head) in
        next ∙ ap (renamed_object more) there.is ∙ sym (ap (λ o. option_map Some (option_and_then more.task o)) there.named)
chained_alike names more [] (b ∷ second) third same also = absurd (cc)
chained_alike names more (a ∷ first) [] third same also = absurd (cc)
chained_alike names more [] [] (c ∷ third) same also = absurd (cc)
chained_alike names more (a ∷ first) (b ∷ second) [] same also = absurd (cc)
